-- For proofs: what proofs say of the definitions of Flags.antt.
use Rattle.std.specs.Prelude.{ℕ, ◌<◌}

-- a carry that an operation takes in is 0 or 1
abbrev pub IsCarry : ℕ → Type 0
IsCarry carry = carry < 2
