-- What the crates of tiles and of sprites need of a byte's pixels.
use Rattle.std.proofs.Common.{ℕ, ◌<◌, arith}
use Rattle.pac_num.specs.Pixels.{pixel_value}

-- a pixel's value is below 4
pub pixel_value-below : (byte x : ℕ) → pixel_value byte x < 4
pixel_value-below byte x = omega arith
