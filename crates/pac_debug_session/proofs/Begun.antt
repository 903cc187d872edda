-- A session at the beginning of its run.
use Rattle.pac_debug_session.proofs.Common.{AreCheckpoints, AreEmpty, AreSeen, AreSlots, AreSlotsRight, BoardState, BoardValue, IsNew}
use Rattle.pac_debug_session.proofs.Common.{IsStanding, List, None, PastStep, Ring, SessionSnapshot, Setting, SlotContents, Stretch, [], ap}
use Rattle.pac_debug_session.proofs.Common.{arith, board_with_inputs, checkpoint_count, false, held, length, length-append, map, mark_of}
use Rattle.pac_debug_session.proofs.Common.{not-both, now_at, refl, replicate, rules, session_at_start, slot_count, suc, sym, zero, ℕ, ◌++◌}
use Rattle.pac_debug_session.proofs.Common.{◌+◌, ◌∙◌, ◌∷◌, ◌≡◌, ◌≤◌}
use Rattle.pac_debug_session.proofs.Steppings.{with_board}

-- ---- nothing is kept yet

none-yet : (setting : Setting) (taken : ℕ) (ks : List SessionSnapshot) → taken + length ks ≤ checkpoint_count →
    AreCheckpoints setting taken ks
none-yet setting taken [] few = tt
none-yet setting taken (first ∷ more) few = (λ enough. absurd (omega arith), none-yet setting (taken + 1) more (omega arith))

all-empty : (setting : Setting) (slots : List SlotContents) → AreEmpty slots → AreSlots setting slots
all-empty setting [] empty = tt
all-empty setting (slot ∷ more) empty = (λ filled. not-both (sym filled ∙ empty.0), all-empty setting more empty.1)

pub no-marks : (slots : List SlotContents) → AreEmpty slots → map mark_of slots ≡ replicate (length slots) None
no-marks [] empty = refl
no-marks (slot ∷ more) empty = cc (empty.0, no-marks more empty.1)

none-seen : (furthest count : ℕ) → AreSeen furthest (replicate count None)
none-seen furthest zero = tt
none-seen furthest (suc count) = (tt, none-seen furthest count)

pub four-marks : (slots : List SlotContents) → length slots ≡ slot_count → AreEmpty slots
    → map mark_of slots ≡ None ∷ None ∷ None ∷ None ∷ []
four-marks slots count empty = no-marks slots empty ∙ ap (λ n. replicate n None) count

-- one more empty slot
pub one-more : (slots : List SlotContents) (slot : SlotContents) → AreEmpty slots → slot.filled ≡ false → AreEmpty (slots ++ slot ∷ [])
one-more [] slot all one = (one, tt)
one-more (first ∷ more) slot all one = (all.0, one-more more slot all.1 one)

pub ruleset empty_slots = (length-append, one-more)

pub right-empty : (setting : Setting) (slots : List SlotContents) → length slots ≡ slot_count → AreEmpty slots →
    AreSlotsRight setting 0 slots
right-empty setting slots count empty = grind (arith, all-empty, no-marks, none-seen)

-- ---- the first frame's inputs are held

module _ (board new : BoardValue) (script : List Stretch) (switches : ℕ) (same : switches ≡ board.state.now.board.memory.switches)
    (fresh : IsNew board) (hold : new ≡ board_with_inputs board (held script 1)) where
  abbrev setting : Setting
  setting = record { set = board.set; switches = switches; script = script }

  abbrev after : BoardState → BoardValue
  after state = board_with_inputs (record { set = board.set; state = state; made = board.made }) (held script 1)

  new-now : new.state.now ≡ now_at setting 0
  new-now = search rules

  pub new-asked : new.state.asked ≡ 0
  new-asked = ap (λ (b : BoardValue). b.state.asked) hold ∙ ap (λ (s : BoardState). s.asked) fresh

  new-steps : new.state.now.steps ≡ 0
  new-steps = ap (λ (b : BoardValue). b.state.now.steps) hold ∙ ap (λ (s : BoardState). s.now.steps) fresh

  abbrev setting-of : BoardValue → Setting
  setting-of b = record { set = b.set; switches = switches; script = script }

  setting-is : setting-of new ≡ setting
  setting-is = ap setting-of hold

  pub stands-first : (history : List PastStep) (ring : Ring) → history ≡ [] → ring.taken ≡ 0 → length ring.kept ≡ checkpoint_count
      → IsStanding (setting-of new) new.state.now history 0 ring
  stands-first history ring none taken all = grind (arith, new-now, new-steps, none-yet, setting-is)

  pub value-first : (slots : List SlotContents) → length slots ≡ slot_count → AreEmpty slots
      → with_board switches script new 0 [] (map mark_of slots) 0
      ≡ session_at_start (record { set = board.set; switches = board.state.now.board.memory.switches; script = script }) board.made
  value-first slots count empty = grind (arith, four-marks, with_board)

-- ---- boards
