-- For proofs: what proofs say of the definitions of Contents.antt.
use Rattle.std.specs.Prelude.{ℕ, ◌≡◌}
use Rattle.pac_asm_line.specs.Statements.{Statement, space}
use Rattle.pac_asm_line.specs.Contents.{statement_size}

-- A statement takes so many bytes, which may be any number for a space.
abbrev pub SizeFits : ℕ → Statement → Type 0
SizeFits size (space count fill) = Unit {0}
SizeFits size statement = size ≡ statement_size statement
