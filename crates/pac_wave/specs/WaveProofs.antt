-- For proofs: what proofs say of the definitions of Wave.antt.
use Rattle.std.specs.Prelude.{ℕ, ℤ, negsuc, pos, ◌≤ℤ◌}

-- the bytes of the wave PROM
abbrev pub prom_size : ℕ
prom_size = 256

-- the range of three voices together: from 64 * 3 * -120 to 64 * 3 * 105
abbrev pub IsSample : ℤ → Type 0
IsSample value = (negsuc 23039 ≤ℤ value) × (value ≤ℤ pos 20160)
