-- What a session keeps as it leaves an index, over plain values, and what it sees after steps.
use Rattle.pac_debug_session.proofs.Common.{AreCheckpoints, AreSeen, AreSlotsRight, BoardValue, IsKeptAt, IsSeen, IsStanding, List, Option}
use Rattle.pac_debug_session.proofs.Common.{PastStep, Ring, SessionSnapshot, SessionValue, Setting, SlotContents, Stretch, [], arith}
use Rattle.pac_debug_session.proofs.Common.{checkpoint_count, checkpoint_steps, drop, kept_of, length, length-append, length-drop}
use Rattle.pac_debug_session.proofs.Common.{nat_tests, nothing_due, ring_after_index, rules, ℕ, ◌*◌, ◌++◌, ◌+◌, ◌-◌, ◌<◌, ◌∷◌, ◌≡◌, ◌≤◌}

-- ---- checkpoints

module _ (setting : Setting) where
  pub checkpoints-append : (taken : ℕ) (ks : List SessionSnapshot) (k : SessionSnapshot) → AreCheckpoints setting taken ks
      → IsKeptAt setting (checkpoint_steps * (taken + length ks - checkpoint_count)) k → AreCheckpoints setting taken (ks ++ k ∷ [])
  checkpoints-append taken [] k so_far here = search rules
  checkpoints-append taken (first ∷ ks) k so_far here =
      let same : taken + length (first ∷ ks) ≡ taken + 1 + length ks = omega arith in
      (so_far.0, checkpoints-append (taken + 1) ks k so_far.1 (rw same at here))

  pub checkpoints-more : (taken : ℕ) (ks : List SessionSnapshot) (k : SessionSnapshot) → length ks ≡ checkpoint_count
      → AreCheckpoints setting taken ks → IsKeptAt setting (checkpoint_steps * taken) k
      → AreCheckpoints setting (taken + 1) (drop 1 ks ++ k ∷ [])
  checkpoints-more taken ks k all so_far here = grind (arith, checkpoints-append)

-- ---- a session

-- a session whose board this is
abbrev pub with_board : (switches : ℕ) → List Stretch → BoardValue → ℕ → List ℕ → List (Option ℕ) → ℕ → SessionValue
with_board switches script b far breakpoints slots replayed = record {
  setting = record { set = b.set; switches = switches; script = script };
  index = b.state.now.steps;
  furthest = far;
  breakpoints = breakpoints;
  slots = slots;
  due = b.state.due;
  made = b.made;
  replayed = replayed;
}

-- slots stay right as the session goes further
seen-later : (furthest later : ℕ) (slot : Option ℕ) → furthest ≤ later → IsSeen furthest slot → IsSeen later slot
seen-later furthest later slot less seen = search rules

pub all-seen-later : (furthest later : ℕ) (slots : List (Option ℕ)) → furthest ≤ later → AreSeen furthest slots → AreSeen later slots
all-seen-later furthest later [] less seen = tt
all-seen-later furthest later (slot ∷ slots) less seen = grind (arith, seen-later, all-seen-later furthest later slots less seen.1)

pub right-later : (setting : Setting) (furthest later : ℕ) (slots : List SlotContents) → furthest ≤ later
    → AreSlotsRight setting furthest slots → AreSlotsRight setting later slots
right-later setting furthest later slots less right = grind (arith, all-seen-later)

-- the ring, once its index is left
pub record IsLeft (setting : Setting) (index furthest : ℕ) (after : Ring) : Type 0 where
  pub few : checkpoint_steps * after.taken ≤ furthest + checkpoint_steps
  pub enough : furthest ≤ checkpoint_steps * after.taken
  pub past : index < checkpoint_steps * after.taken
  pub all : length after.kept ≡ checkpoint_count
  pub checkpoints : AreCheckpoints setting after.taken after.kept

pub left : (setting : Setting) (board : BoardValue) (history : List PastStep) (furthest : ℕ) (ring : Ring)
    → IsStanding setting board.state.now history furthest ring → board.state.due ≡ nothing_due → board.state.asked ≡ 0
    → IsLeft setting board.state.now.steps furthest (ring_after_index board.state.now.steps ring (kept_of board history))
left setting board history furthest ring stands nothing unasked = grind (arith, checkpoints-more, length-append, length-drop, nat_tests)
