-- For proofs: a writer for tests, over memory: it takes at most `most` bytes a call, and refuses one call.
use Rattle.std.specs.Prelude.{◌≡◌, ℕ, ◌-◌, ◌<◌, ◌≤◌, List, ◌⊎◌}
use Rattle.pac_out.specs.Memory.{Space, Adds}

-- `refusal` is the number of the call that it refuses, counted from the next, which is 1; 0 is no call.
pub record WeakWriter : Type 0 where
  pub space : Space
  pub most : ℕ
  pub refusal : ℕ

-- The writer took these bytes in calls that it didn't refuse.
pub record Passes (old : WeakWriter) (more : List ℕ) (new : WeakWriter) : Type 0 where
  pub added : Adds old.space more new.space
  pub same_most : new.most ≡ old.most
  pub fewer : new.refusal ≤ old.refusal
  pub still_comes : 0 < old.refusal → 0 < new.refusal

-- The writer refuses the call of its number, and where it can take no byte.
pub record IsRefused (old new : WeakWriter) : Type 0 where
  pub reason : (old.refusal ≡ 1) ⊎ (old.space.room ≡ 0) ⊎ (old.most ≡ 0)
  pub same_space : new.space ≡ old.space
  pub same_most : new.most ≡ old.most
  pub next : new.refusal ≡ old.refusal - 1
