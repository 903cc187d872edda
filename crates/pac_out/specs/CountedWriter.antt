-- Law: a file, as contracts see it.
use Rattle.std.specs.Prelude.{ℕ, Bool}

-- its writer, what it tells of the bytes that this took, and whether it refused
pub record CountedWriter (W : Type 0) : Type 0 where
  pub writer : W
  pub count : ℕ
  pub failed : Bool
