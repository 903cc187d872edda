-- For proofs: what an image was drawn from, and the tables that it is drawn with.
use Rattle.std.specs.Prelude.{◌≡◌, ℕ, ◌*◌, ◌<◌, List, [], ◌∷◌, length, take, slice_index, EachIndex}
use Rattle.std.specs.List.{flat_map}
use Rattle.pac_tiles.specs.Tiles.{width}
use Rattle.pac_media.specs.Images.{palette_colour, ppm_of}

-- each colour of a palette has three bytes
abbrev pub AreColours : List (List ℕ) → Type 0
AreColours palette = (number : ℕ) → number < 16 → length (palette_colour palette number) ≡ 3

-- the reds, the greens and the blues of sixteen colours
abbrev pub ArePlanes : (colours : List (List ℕ)) (reds greens blues : List ℕ) → Type 0
ArePlanes colours reds greens blues =
    (number : ℕ) → number < 16 →
    palette_colour colours number ≡ slice_index reds number ∷ slice_index greens number ∷ slice_index blues number ∷ []

-- pixels of these reds, greens and blues
abbrev pub rgb_pixels : (reds greens blues : List ℕ) → List ℕ
rgb_pixels (red ∷ reds) (green ∷ greens) (blue ∷ blues) = red ∷ green ∷ blue ∷ rgb_pixels reds greens blues
rgb_pixels reds greens blues = []

-- a palette with its reds, greens and blues
pub record IsPalette (colours : List (List ℕ)) (reds greens blues : List ℕ) : Type 0 where
  pub sixteen : length colours ≡ 16
  pub made : ArePlanes colours reds greens blues

-- a line's pixels, three bytes each, are those of the kept numbers in these colours, and so many of the kept numbers are the new ones
pub record IsDrawnTo (palette : List (List ℕ)) (count : ℕ) (numbers pixels kept : List ℕ) : Type 0 where
  pub colours : AreColours palette
  pub size : length pixels ≡ 3 * width
  pub new : EachIndex numbers (λ x. slice_index numbers x < 16)
  pub below : EachIndex kept (λ x. slice_index kept x < 16)
  pub drawn : pixels ≡ flat_map (palette_colour palette) kept
  pub same : take count kept ≡ take count numbers

-- no image, or that of these lines in this palette
abbrev pub IsImageOf : List ℕ → List (List ℕ) → List (List ℕ) → Type 0
IsImageOf image lines palette = 0 < length image → image ≡ ppm_of lines palette
