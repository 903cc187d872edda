-- For proofs: what proofs say of the definitions of Colours.antt.
use Rattle.std.specs.Prelude.{ℕ}

-- the bytes of the lookup PROM, and how many colour numbers there are
abbrev pub lookup_size : ℕ
lookup_size = 256
