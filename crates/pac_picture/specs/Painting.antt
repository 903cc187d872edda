-- For proofs: a line of the picture as it is painted: colour number 0 of a sprite is transparent.
use Rattle.std.specs.Prelude.{◌≡◌, ℕ, ◌*◌, ◌/◌, ◌%◌, ◌^◌, ◌<◌, ◌==◌, ◌&&◌, nat_lt, if◌then◌else◌, List, slice_index}
use Rattle.pac_sprites.specs.declared.Sprite.{Sprite}
use Rattle.pac_sprites.specs.Sprites.{is_column_of, is_in_box, box_place, flipped_place}
use Rattle.pac_picture.specs.Picture.{VideoMemory, sprite_at, is_opaque}

-- a number painted over another
abbrev pub painted_number : ℕ → ℕ → ℕ
painted_number number below = if is_opaque number then number else below

-- what a line of a sprite's numbers makes of the number in column x
unfoldable pub over_line : List ℕ → Sprite → ℕ → ℕ → ℕ
over_line line sprite x below =
    if is_column_of sprite x
    then painted_number (slice_index line (flipped_place sprite.flip_x (box_place sprite.left x))) below
    else below

-- bits say which of the eight sprites' boxes have line y of the picture, two for each sprite, of which the first tells
abbrev pub AreBoxes : ℕ → VideoMemory → ℕ → Type 0
AreBoxes boxes memory y = (k : ℕ) → k < 8 → boxes / 2 ^ (2 * k) % 2 ≡ (if is_in_box (sprite_at memory k).top y then 1 else 0)

-- the number to be painted by a place of those bits, of the numbers of eight sprites: none where no sprite's bit stands there
abbrev pub told_number : (place : ℕ) → (ℕ → ℕ) → ℕ
told_number place numbers = if place % 2 == 0 && nat_lt place 16 then numbers (place / 2) else 0

-- the numbers of eight sprites that are painted, where those of which a bit is left aren't yet
abbrev pub painted_yet : (left : ℕ) → (ℕ → ℕ) → ℕ → ℕ
painted_yet left numbers k = if left / 2 ^ (2 * k) % 2 == 1 then 0 else numbers k
