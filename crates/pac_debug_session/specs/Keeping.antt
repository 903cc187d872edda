-- For proofs: what a session keeps beside its board: the steps that are told, the checkpoints, and what the slots have.
use Rattle.std.specs.Prelude.{◌≡◌, ◌≤◌, ℕ, ◌+◌, ◌-◌, ◌*◌, ◌==◌, Bool, true, false, List, [], ◌∷◌, ◌++◌, Option, None, Some}
use Rattle.std.specs.Prelude.{if◌then◌else◌, drop}
use Rattle.pac_board_course.specs.State.{BoardValue, nothing_due}
use Rattle.pac_board_course.specs.PastStep.{PastStep}
use Rattle.pac_debug_session.specs.declared.kept.SessionSnapshot.{SessionSnapshot}
use Rattle.pac_debug_session.specs.declared.kept.SlotContents.{SlotContents}
use Rattle.pac_debug_session.specs.Motions.{checkpoint_steps, checkpoint_count}
use Rattle.pac_debug_session.specs.Past.{told_at}
use Rattle.pac_debug_session.specs.Running.{Setting, now_at}

-- what is kept of a board, with the steps that are told then
abbrev pub kept_of : BoardValue → List PastStep → SessionSnapshot
kept_of board steps = record { snapshot = board.state; history = steps }

-- the checkpoints, the oldest first, and how many were ever taken
pub record Ring : Type 0 where
  pub kept : List SessionSnapshot
  pub taken : ℕ

-- the checkpoints with one more, which is written over the oldest
abbrev pub ring_with_checkpoint : Ring → SessionSnapshot → Ring
ring_with_checkpoint ring kept = record { kept = drop 1 ring.kept ++ kept ∷ []; taken = ring.taken + 1 }

-- the checkpoints after an index: one is taken where this is the index of the next one
abbrev pub ring_after_index : (index : ℕ) → Ring → SessionSnapshot → Ring
ring_after_index index ring kept = if index == checkpoint_steps * ring.taken then ring_with_checkpoint ring kept else ring

-- ---- what is right

-- what is kept is that of an index, with nothing due and nothing asked
pub record IsKeptAt (setting : Setting) (index : ℕ) (kept : SessionSnapshot) : Type 0 where
  pub now : kept.snapshot.now ≡ now_at setting index
  pub nothing : kept.snapshot.due ≡ nothing_due
  pub unasked : kept.snapshot.asked ≡ 0
  pub history : kept.history ≡ told_at setting index

-- The checkpoints of a ring after so many were taken: where 16 more than n were, the first of them is that of index 4,096 n, and the
-- next ones follow. What fills the ring at first is no checkpoint.
abbrev pub AreCheckpoints : Setting → (taken : ℕ) → List SessionSnapshot → Type 0
AreCheckpoints setting taken [] = Unit {0}
AreCheckpoints setting taken (kept ∷ more) =
    (checkpoint_count ≤ taken → IsKeptAt setting (checkpoint_steps * (taken - checkpoint_count)) kept)
    × AreCheckpoints setting (taken + 1) more

-- what a slot has, where it is filled
abbrev pub mark_if : Bool → ℕ → Option ℕ
mark_if filled index = if filled then Some index else None

abbrev pub mark_of : SlotContents → Option ℕ
mark_of slot = mark_if slot.filled slot.kept.snapshot.now.steps

abbrev pub IsSlot : Setting → SlotContents → Type 0
IsSlot setting slot = slot.filled ≡ true → IsKeptAt setting slot.kept.snapshot.now.steps slot.kept

abbrev pub AreSlots : Setting → List SlotContents → Type 0
AreSlots setting [] = Unit {0}
AreSlots setting (slot ∷ more) = IsSlot setting slot × AreSlots setting more

-- slots that were never filled
abbrev pub AreEmpty : List SlotContents → Type 0
AreEmpty [] = Unit {0}
AreEmpty (slot ∷ more) = (slot.filled ≡ false) × AreEmpty more
