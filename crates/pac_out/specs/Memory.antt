-- For proofs: a writer over memory: the bytes that it took, and the room that is left for more.
use Rattle.std.specs.Prelude.{◌≡◌, ℕ, ◌+◌, List, ◌++◌, length}

pub record Space : Type 0 where
  pub bytes : List ℕ
  pub room : ℕ

-- The writer took these bytes: they stand after those that it had, and their room is gone.
pub record Adds (old : Space) (more : List ℕ) (new : Space) : Type 0 where
  pub after : new.bytes ≡ old.bytes ++ more
  pub used : new.room + length more ≡ old.room

-- The writer refuses only where it has no room, and stays as it was.
pub record IsFull (old new : Space) : Type 0 where
  pub no_room : old.room ≡ 0
  pub unchanged : new ≡ old
