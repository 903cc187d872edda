-- Believed: what a board gives out: sound samples and pictures.
use Rattle.std.specs.Prelude.{ℕ, ℤ, suc, List, [], ◌∷◌}
use Rattle.pac_map.specs.RomParts.{Parts}
use Rattle.pac_picture.specs.State.{palette_of}

-- a picture as it is shown: 224 lines of 288 colour numbers, and red, green and blue of each of the 16 numbers
pub record Image : Type 0 where
  pub lines : List (List ℕ)
  pub palette : List (List ℕ)

pub data Output : Type 0 where
  -- a sound sample, 16 bits with a sign
  Sound : (sample : ℤ) → Output
  -- a picture
  Show : (image : Image) → Output

-- lines in the colours of a set's colour PROM
abbrev pub image_of : Parts → List (List ℕ) → Image
image_of set lines = record { lines = lines; palette = palette_of set.colours }

-- how many sound samples and how many pictures are among outputs
abbrev pub sound_count : List Output → ℕ
sound_count [] = 0
sound_count (Sound sample ∷ more) = suc (sound_count more)
sound_count (Show image ∷ more) = sound_count more

abbrev pub picture_count : List Output → ℕ
picture_count [] = 0
picture_count (Sound sample ∷ more) = picture_count more
picture_count (Show image ∷ more) = suc (picture_count more)
