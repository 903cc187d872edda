-- For proofs: what proofs say of the definitions of Picture.antt.
use Rattle.pac_picture.specs.Picture.{VideoRoms, VideoMemory, picture_line}
use Rattle.std.specs.Prelude.{List, ℕ, zero, suc, ◌+◌, slice_set}

abbrev pub sprite_bytes : ℕ
sprite_bytes = 16

-- lines composed one after another, so many from one on
abbrev pub lines_composed : VideoRoms → VideoMemory → List (List ℕ) → (first count : ℕ) → List (List ℕ)
lines_composed roms memory lines first zero = lines
lines_composed roms memory lines first (suc count) =
    slice_set (lines_composed roms memory lines first count) (first + count) (picture_line roms memory (first + count))
