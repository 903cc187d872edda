-- Believed: the picture of a live board as colour numbers, and its palette.
use Rattle.std.specs.Prelude.{◌≡◌, ◌≢◌, ◌⊎◌, ℕ, ◌*◌, List, [], ◌∷◌, length, Ok, Err}
use Rattle.std.specs.List.{flat_map}
use Rattle.pac_board.specs.PictureState.{palette_of}
use Rattle.pac_board.specs.Tiles.{width, height}
use Rattle.pac_colour.specs.Colours.{numbers}
use Rattle.pac_block.specs.declared.codes.HostFault.TheVariants.{WrongLength}
use Rattle.pac_block.specs.Host.{opaque_pixel}
use Rattle.pac_live.specs.Live.{BoardCall}

-- the lines of a picture, one after another from the top
abbrev pub numbers_size : ℕ
numbers_size = width * height

abbrev pub numbers_of : List (List ℕ) → List ℕ
numbers_of lines = flat_map (λ line. line) lines

-- the colours of all numbers, in their order, each as a pixel of that number is drawn
abbrev pub palette_size : ℕ
palette_size = 4 * numbers

abbrev pub colours_of : (palette : List (List ℕ)) → List ℕ
colours_of palette = flat_map (opaque_pixel palette) (0 ∷ 1 ∷ 2 ∷ 3 ∷ 4 ∷ 5 ∷ 6 ∷ 7 ∷ 8 ∷ 9 ∷ 10 ∷ 11 ∷ 12 ∷ 13 ∷ 14 ∷ 15 ∷ [])

-- the picture as it stands, and the colours of the board's ROMs
abbrev pub GivingLines : (lines lines_after palette palette_after : List ℕ) → BoardCall
GivingLines lines lines_after palette palette_after (Ok done) old new =
    (length lines ≡ numbers_size) × (length palette ≡ palette_size) × (lines_after ≡ numbers_of old.state.now.board.lines)
    × (palette_after ≡ colours_of (palette_of old.set.colours)) × (new ≡ old)
GivingLines lines lines_after palette palette_after (Err WrongLength) old new =
    ((length lines ≢ numbers_size) ⊎ (length palette ≢ palette_size)) × (new ≡ old) × (lines_after ≡ lines)
    × (palette_after ≡ palette)
GivingLines lines lines_after palette palette_after (Err fault) old new = ⊥
