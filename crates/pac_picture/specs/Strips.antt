-- For proofs: the eight lines of a row of cells, and a tile's lines two by two.
use Rattle.std.specs.Prelude.{◌≡◌, ℕ, ◌+◌, ◌-◌, ◌*◌, ◌/◌, ◌%◌, ◌<◌, ◌||◌, Bool, true, false, not, nat_lt, if◌then◌else◌}
use Rattle.std.specs.Prelude.{List, [], slice_index, slice_index_or}
use Rattle.pac_num.specs.Tabulate.{tabulate}
use Rattle.pac_tiles.specs.Tiles.{width}
use Rattle.pac_picture.specs.Picture.{VideoRoms, tile_number}
use Rattle.pac_picture.specs.Layer.{shadow_from}
use Rattle.pac_picture.specs.LayerProofs.{kept_dot, row_dot}

-- the four pairs of lines of a tile's numbers in a colour, the two of a pair one after the other
unfoldable pub tile_pairs : VideoRoms → ℕ → ℕ → List (List ℕ)
tile_pairs roms colour tile = tabulate 4 (λ pair. tabulate 16 (λ k. tile_number roms colour tile (k % 8) (2 * pair + k / 8)))

-- the number at (x, y) of such lines
abbrev pub pattern_dot : List (List ℕ) → ℕ → ℕ → ℕ
pattern_dot pairs x y = slice_index (slice_index_or pairs (y / 2) []) (8 * (y % 2) + x)

-- the number at (x, y) of two cells side by side
abbrev pub beside : List (List ℕ) → List (List ℕ) → ℕ → ℕ → ℕ
beside left right x y = if nat_lt x 8 then pattern_dot left x y else pattern_dot right (x - 8) y

-- the number at (x, y) of two cells
abbrev pub twin_dot : List (List ℕ) → ℕ → ℕ → ℕ
twin_dot twin x y = slice_index (slice_index_or twin y []) x

-- two cells are those at a place, of 18, in a row of cells of these tiles and colours
abbrev pub IsTwin : VideoRoms → List ℕ → List ℕ → ℕ → List (List ℕ) → Type 0
IsTwin roms tiles colours place twin =
    (x y : ℕ) → x / 16 ≡ place → y < 8 → twin_dot twin (x % 16) y ≡ kept_dot roms (shadow_from tiles colours) x y

-- the bytes of the two cells at a place are those of the two to their left
abbrev pub AreLike : List ℕ → ℕ → Type 0
AreLike bytes place = (k : ℕ) → k < 2 → slice_index bytes (2 * place + k) ≡ slice_index bytes (2 * (place - 1) + k)

-- whether one of the two cells at a place is of a mask
abbrev pub has_marked : List Bool → ℕ → Bool
has_marked mask place = slice_index_or mask (2 * place) false || slice_index_or mask (2 * place + 1) false

-- lines are those of a row of cells of these tiles and colours, but for places from one on which are to be drawn
abbrev pub AreDrawn : VideoRoms → List ℕ → List ℕ → (ℕ → Bool) → ℕ → List (List (List ℕ)) → Type 0
AreDrawn roms tiles colours is_due place lines =
    (x y : ℕ) → x < width → y < 8 → (nat_lt x (16 * place) || not (is_due (x / 16))) ≡ true →
    row_dot lines x y ≡ kept_dot roms (shadow_from tiles colours) x y
