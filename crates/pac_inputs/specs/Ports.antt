-- Believed: the bytes of the two input ports (Namco Pac-Man service schematics, ports IN0 and IN1), by the word that says
-- which inputs are held.
use Rattle.std.specs.Prelude.{ℕ, ◌-◌}
use Rattle.pac_num.specs.Numbers.{low_byte, high_byte}

-- a held input reads 0, every other one 1: the first port shows the low byte's inputs, the second the high byte's
abbrev pub in0 : ℕ → ℕ
in0 held = 255 - low_byte held

abbrev pub in1 : ℕ → ℕ
in1 held = 255 - high_byte held
