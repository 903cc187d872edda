-- For proofs: what proofs say of the definitions of Sprites.antt.
use Rattle.std.specs.Prelude.{ℕ, List, Option, Some, None, if◌then◌else◌}
use Rattle.pac_sprites.specs.declared.Sprite.{Sprite}
use Rattle.pac_sprites.specs.Sprites.{sprite_pixel, flipped_place, covers_of, box_place}

-- the bytes of the sprite ROM, the sprites that it has, and the colours that a sprite may have
abbrev pub sprite_rom_size : ℕ
sprite_rom_size = 4096

abbrev pub sprite_codes : ℕ
sprite_codes = 64

-- the value that a sprite has at a column and a line of its box
abbrev pub boxed_of : List ℕ → Sprite → ℕ → ℕ → ℕ
boxed_of rom sprite across down = sprite_pixel rom sprite.code (flipped_place sprite.flip_x across) (flipped_place sprite.flip_y down)

-- the value that a sprite has at (x, y) of the picture, where it shows there
abbrev pub dot_of : List ℕ → Sprite → ℕ → ℕ → Option ℕ
dot_of rom sprite x y =
    if covers_of sprite x y
    then Some (boxed_of rom sprite (box_place sprite.left x) (box_place sprite.top y))
    else None
