-- For proofs: what proofs say of the definitions of Layer.antt.
use Rattle.pac_picture.specs.Picture.{VideoRoms, tile_number}
use Rattle.std.specs.Prelude.{ℕ, List, length, ◌≡◌, replicate, false, slice_index_or, [], slice_index, ◌<◌, true, ◌/◌, ◌%◌}
use Rattle.pac_num.specs.Tabulate.{tabulate}
use Rattle.pac_tiles.specs.Tiles.{width}
use Rattle.pac_tiles.specs.TilesProofs.{tile_rom_size}
use Rattle.pac_sprites.specs.SpritesProofs.{sprite_rom_size}
use Rattle.pac_colour.specs.ColoursProofs.{lookup_size}
use Rattle.pac_picture.specs.declared.shadow.Shadow.{Shadow}
use Rattle.pac_tiles.specs.TilesLaws.{columns, rows}
use Rattle.pac_picture.specs.declared.layer.Strip.{Strip}
use Rattle.pac_picture.specs.Layer.{shadow_at}

-- the ROMs have their sizes
pub record AreSized (roms : VideoRoms) : Type 0 where
  pub tiles : length roms.tiles ≡ tile_rom_size
  pub sprites : length roms.sprites ≡ sprite_rom_size
  pub lookup : length roms.lookup ≡ lookup_size

-- ROMs of which each byte is 0
unfoldable pub zero_roms : VideoRoms
zero_roms = record {
  tiles = replicate tile_rom_size 0;
  sprites = replicate sprite_rom_size 0;
  lookup = replicate lookup_size 0;
}

-- the shadow of a row that was never drawn, and of all rows
abbrev pub stale_row : Shadow
stale_row = record { tiles = replicate columns 0; colours = replicate columns 0; is_drawn = false }

unfoldable pub stale_rows : List Shadow
stale_rows = tabulate rows (λ _. stale_row)

-- every cell of a row counts as differing from now on
abbrev pub made_stale : Shadow → Shadow
made_stale shadow = record shadow { is_drawn = false }

-- the number at (x, y) of the picture, from the bytes that its row of cells was drawn from
unfoldable pub kept_dot : VideoRoms → Shadow → ℕ → ℕ → ℕ
kept_dot roms shadow x y = tile_number roms (slice_index shadow.colours (x / 8)) (slice_index shadow.tiles (x / 8)) (x % 8) (y % 8)

-- the number in column x on line y of lines, of which each has its numbers sixteen by sixteen
abbrev pub row_dot : List (List (List ℕ)) → ℕ → ℕ → ℕ
row_dot lines x y = slice_index (slice_index_or (slice_index_or lines y []) (x / 16) []) (x % 16)

-- where a row of cells was drawn, its lines are those of the cells that its bytes say
abbrev pub IsDrawn : VideoRoms → Shadow → List (List (List ℕ)) → Type 0
IsDrawn roms shadow lines =
    shadow.is_drawn ≡ true → (x y : ℕ) → x < width → y < 8 → row_dot lines x y ≡ kept_dot roms shadow x y

-- what clauses see of the layer: the ROMs that it is drawn from, and the shadows of its 28 rows
pub record LayerState : Type 0 where
  pub roms : VideoRoms
  pub shadows : List Shadow

-- the shadows are of all rows, and the lines that are kept of one row are drawn; 28 is the number of none
pub record IsLayer (roms : VideoRoms) (shadows : List Shadow) (row : ℕ) (kept : Strip (List (List (List ℕ)))) : Type 0 where
  pub shadows_high : length shadows ≡ rows
  pub drawn : row < rows → IsDrawn roms (shadow_at shadows row) kept.lines
