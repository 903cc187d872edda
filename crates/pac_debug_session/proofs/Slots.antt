-- What slots and checkpoints keep, and a session that goes to it.
use Rattle.pac_debug_session.proofs.Common.{AreSeen, AreSlots, AreSlotsRight, BoardValue, BoardView, IsKeptAt, IsSeen, IsSlot, IsStanding}
use Rattle.pac_debug_session.proofs.Common.{List, Moment, None, Option, PastStep, Ring, SessionSnapshot, Setting, SlotContents, Some}
use Rattle.pac_debug_session.proofs.Common.{Stretch, [], ap, arith, get_or, get_or-map, length, length-set, map, map-set, mark_of}
use Rattle.pac_debug_session.proofs.Common.{nothing_due, restored_board, rules, set, subst, suc, sym, true, zero, ℕ, ◌<◌, ◌∙◌, ◌∷◌, ◌≡◌}
use Rattle.pac_debug_session.proofs.Common.{◌≤◌}
use Rattle.pac_debug_session.proofs.Indices.{open-up-to}
use Rattle.pac_debug_session.proofs.Steppings.{with_board}

-- ---- one slot of them all

pub seen-set : (furthest : ℕ) (marks : List (Option ℕ)) (place : ℕ) (mark : Option ℕ) → AreSeen furthest marks → IsSeen furthest mark
    → AreSeen furthest (set marks place mark)
seen-set furthest [] place mark all one = tt
seen-set furthest (first ∷ more) zero mark all one = (one, all.1)
seen-set furthest (first ∷ more) (suc place) mark all one = (all.0, seen-set furthest more place mark all.1 one)

module _ (setting : Setting) (furthest : ℕ) where
  slots-set : (slots : List SlotContents) (place : ℕ) (slot : SlotContents) → AreSlots setting slots → IsSlot setting slot
      → AreSlots setting (set slots place slot)
  slots-set [] place slot all one = tt
  slots-set (first ∷ more) zero slot all one = (one, all.1)
  slots-set (first ∷ more) (suc place) slot all one = (all.0, slots-set more place slot all.1 one)

  -- a slot that is filled anew
  pub right-set : (slots : List SlotContents) (place : ℕ) (slot : SlotContents) → AreSlotsRight setting furthest slots → IsSlot setting slot
      → IsSeen furthest (mark_of slot) → AreSlotsRight setting furthest (set slots place slot)
  right-set slots place slot right one seen = grind (arith, length-set, map-set, seen-set, slots-set)

  -- the slot of a place
  slot-at : (slots : List SlotContents) (place : ℕ) (slot : SlotContents) → place < length slots → slot ≡ get_or slots place slot
      → AreSlots setting slots → IsSlot setting slot
  slot-at [] place slot less is all = absurd (omega arith)
  slot-at (first ∷ more) zero slot less is all = subst (IsSlot setting) (sym is) all.0
  slot-at (first ∷ more) (suc place) slot less is all = slot-at more place slot (omega arith) is all.1

  seen-at : (slots : List SlotContents) (place : ℕ) (slot : SlotContents) → place < length slots → slot ≡ get_or slots place slot
      → AreSeen furthest (map mark_of slots) → IsSeen furthest (mark_of slot)
  seen-at [] place slot less is all = absurd (omega arith)
  seen-at (first ∷ more) zero slot less is all = subst (λ (s : SlotContents). IsSeen furthest (mark_of s)) (sym is) all.0
  seen-at (first ∷ more) (suc place) slot less is all = seen-at more place slot (omega arith) is all.1

  pub mark-at : (slots : List SlotContents) (place : ℕ) (slot : SlotContents) → place < length slots → slot ≡ get_or slots place slot
      → get_or (map mark_of slots) place None ≡ mark_of slot
  mark-at slots place slot less is = get_or-map mark_of slots place slot None less ∙ ap mark_of (sym is)

  -- what a filled slot keeps was seen
  pub record IsFilled (slot : SlotContents) : Type 0 where
    pub kept : IsKeptAt setting slot.kept.snapshot.now.steps slot.kept
    pub seen : slot.kept.snapshot.now.steps ≤ furthest
    pub mark : mark_of slot ≡ Some slot.kept.snapshot.now.steps

  pub filled-at : (slots : List SlotContents) (place : ℕ) (slot : SlotContents) → place < length slots → slot ≡ get_or slots place slot
      → AreSlotsRight setting furthest slots → slot.filled ≡ true → IsFilled slot
  filled-at slots place slot less is right filled = grind (arith, seen-at, slot-at)

  -- ---- a session at what was kept

  pub stands-at : (now : Moment BoardView) (history : List PastStep) (ring : Ring) (index : ℕ) (kept : SessionSnapshot)
      → IsStanding setting now history furthest ring → IsKeptAt setting index kept → index ≤ furthest
      → IsStanding setting kept.snapshot.now kept.history furthest ring × (kept.snapshot.now.steps ≡ index)
  stands-at now history ring index kept stands at seen = grind (arith, open-up-to)

-- ---- after what was kept is put back

module _ (switches : ℕ) (script : List Stretch) (board new : BoardValue) (history : List PastStep) (kept : SessionSnapshot) (furthest : ℕ)
    (board_is : new ≡ restored_board board kept.snapshot) (history_is : history ≡ kept.history) where
  abbrev setting-of : BoardValue → Setting
  setting-of b = record { set = b.set; switches = switches; script = script }

  pub standing-there : (ring : Ring) → IsStanding (setting-of board) kept.snapshot.now kept.history furthest ring
      → IsStanding (setting-of new) new.state.now history furthest ring
  standing-there ring stands = search rules

  pub right-there : (slots : List SlotContents) → AreSlotsRight (setting-of board) furthest slots →
      AreSlotsRight (setting-of new) furthest slots
  right-there slots right = rw board_is right

  pub value-there : (breakpoints : List ℕ) (marks : List (Option ℕ)) (replayed index : ℕ) → kept.snapshot.now.steps ≡ index
      → kept.snapshot.due ≡ nothing_due
      → with_board switches script new furthest breakpoints marks replayed
      ≡ record (with_board switches script board furthest breakpoints marks replayed) { index = index; due = nothing_due }
  value-there breakpoints marks replayed index steps nothing = rw (board_is, steps, nothing)
