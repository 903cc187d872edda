-- The way back, over plain values: a checkpoint is found by its place, and steps are done again.
use Rattle.pac_debug_session.proofs.Common.{AreCheckpoints, IsKeptAt, List, SessionSnapshot, SessionValue, Setting, Some, [], arith}
use Rattle.pac_debug_session.proofs.Common.{checkpoint_count, checkpoint_steps, common_steps, replayed_to, rules, slice_get, suc, zero, ℕ}
use Rattle.pac_debug_session.proofs.Common.{◌*◌, ◌+◌, ◌-◌, ◌<◌, ◌∷◌, ◌≡◌, ◌≤◌}

-- ---- the checkpoint of a place

pub checkpoint-there : (setting : Setting) (taken : ℕ) (ks : List SessionSnapshot) (place : ℕ) (k : SessionSnapshot)
    → AreCheckpoints setting taken ks → slice_get ks place ≡ Some k → checkpoint_count ≤ taken + place
    → IsKeptAt setting (checkpoint_steps * (taken + place - checkpoint_count)) k
checkpoint-there setting taken [] place k so_far is enough = absurd (cc)
checkpoint-there setting taken (first ∷ ks) zero k so_far is enough = search rules
checkpoint-there setting taken (first ∷ ks) (suc place) k so_far is enough =
    grind (arith, common_steps, checkpoint-there setting (taken + 1) ks place k so_far.1 is (omega arith))

-- ---- steps that are done again

pub record IsAgain (old s new : SessionValue) (most : ℕ) : Type 0 where
  pub session : new ≡ replayed_to old new.index
  pub later : s.index < new.index
  pub near : new.index ≤ s.index + most
