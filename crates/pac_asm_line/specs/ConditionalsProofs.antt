-- For proofs: what proofs say of the definitions of Conditionals.antt.
use Rattle.std.specs.Prelude.{ℕ, Bool, ◌==◌, ◌||◌}

-- whether one of these words begins with a byte: E or I, in either case
abbrev pub may_begin_conditional : ℕ → Bool
may_begin_conditional b = b == 69 || b == 101 || b == 73 || b == 105
