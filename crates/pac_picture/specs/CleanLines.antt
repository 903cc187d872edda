-- For proofs: the lines of a picture that are known to be what their row of cells and the sprites on them come to.
use Rattle.std.specs.Prelude.{◌≡◌, ℕ, ◌+◌, ◌-◌, ◌*◌, ◌/◌, ◌<◌, ◌||◌, Bool, true, false, if◌then◌else◌, List, []}
use Rattle.std.specs.Prelude.{slice_index, slice_index_or, find, unwrap_or}
use Rattle.pac_num.specs.Tabulate.{tabulate}
use Rattle.pac_tiles.specs.Tiles.{width, height, tile_side}
use Rattle.pac_sprites.specs.declared.Sprite.{Sprite}
use Rattle.pac_sprites.specs.Sprites.{sprite_of, is_in_box}
use Rattle.pac_picture.specs.declared.shadow.Shadow.{Shadow}
use Rattle.pac_picture.specs.declared.clean.Clean.{Clean}
use Rattle.pac_picture.specs.declared.clean.SpriteBytes.{SpriteBytes}
use Rattle.pac_picture.specs.Picture.{VideoRoms, sprite_dot, is_opaque}
use Rattle.pac_picture.specs.LayerProofs.{LayerState, kept_dot}
use Rattle.pac_picture.specs.Layer.{shadow_at}

-- the line of the picture that isn't flipped which line y of the shown one has
abbrev pub unflipped_line : Bool → ℕ → ℕ
unflipped_line flip y = if flip then height - 1 - y else y

-- the sprites that the line of a number was composed with
abbrev pub sprites_at : List SpriteBytes → ℕ → SpriteBytes
sprites_at sprites line = slice_index_or sprites line (record { attributes = []; coordinates = [] })

-- a sprite, 0 to 7, as these bytes say
abbrev pub seen_sprite : SpriteBytes → ℕ → Sprite
seen_sprite sprites k =
    sprite_of (slice_index sprites.attributes (2 * k)) (slice_index sprites.attributes (2 * k + 1))
    (slice_index sprites.coordinates (2 * k)) (slice_index sprites.coordinates (2 * k + 1))

-- two sprites do the same to line y of the picture: where the box of one of them has that line, they are one
abbrev pub AreSameOn : ℕ → Sprite → Sprite → Type 0
AreSameOn y one other = (is_in_box one.top y || is_in_box other.top y) ≡ true → one ≡ other

-- the number at (x, y) of the picture, from the bytes that its row of cells was drawn from and those of the sprites
unfoldable pub seen_dot : VideoRoms → Shadow → SpriteBytes → ℕ → ℕ → ℕ
seen_dot roms shadow sprites x y =
    unwrap_or (find is_opaque (tabulate 8 (λ k. sprite_dot roms (seen_sprite sprites k) x y))) (kept_dot roms shadow x y)

-- line y of the shown picture, from the same
unfoldable pub seen_line : VideoRoms → Shadow → SpriteBytes → Bool → ℕ → List ℕ
seen_line roms shadow sprites flip y =
    tabulate width (λ x. if flip then seen_dot roms shadow sprites (width - 1 - x) (height - 1 - y) else seen_dot roms shadow sprites x y)

-- each line that is marked is that of its row of cells and of the sprites that are kept for it
pub record AreClean (marks : List Bool) (flip : Bool) (sprites : List SpriteBytes) (roms : VideoRoms) (shadows : List Shadow)
    (lines : List (List ℕ)) : Type 0 where
  pub each : (y : ℕ) → y < height → slice_index_or marks (unflipped_line flip y) false ≡ true
      → slice_index_or lines y []
      ≡ seen_line roms (shadow_at shadows (unflipped_line flip y / tile_side)) (sprites_at sprites (unflipped_line flip y)) flip y

-- the same of what a picture and its layer keep
abbrev pub MarksClean : Clean → LayerState → (lines : List (List ℕ)) → Type 0
MarksClean clean layer lines = AreClean clean.lines clean.flip clean.sprites layer.roms layer.shadows lines

-- whatever lines they are, those that are marked stay clean where a row of cells is drawn
abbrev pub StayClean : (clean : Clean) (layer : LayerState) (left : Clean) (drawn : LayerState) → Type 0
StayClean clean layer left drawn = (lines : List (List ℕ)) → MarksClean clean layer lines → MarksClean left drawn lines
