-- Believed: what a manifest's table says of a part, as plain data.
use Rattle.std.specs.Prelude.{ℕ, List, Option}

-- the name of the part's file, and the 20 bytes of its digest, where they are given
pub record PlainEntry : Type 0 where
  pub file : Option (List ℕ)
  pub digest : Option (List ℕ)
