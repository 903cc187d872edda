-- For proofs: what proofs say of the definitions of Images.antt.
use Rattle.std.specs.Prelude.{ℕ, ◌+◌, ◌*◌}
use Rattle.pac_tiles.specs.Tiles.{width, height}

-- the bytes of an image: the header, and three of each pixel
abbrev pub image_size : ℕ
image_size = 15 + 3 * (width * height)
