-- For proofs: pixels made of their reds, their greens and their blues.
use Rattle.std.specs.Prelude.{ℕ, List, [], ◌∷◌, slice_index}
use Rattle.pac_num.specs.Tabulate.{tabulate}
use Rattle.pac_colour.specs.Colours.{numbers}

-- the palette of the reds, the greens and the blues of its colours
unfoldable pub coloured : (reds greens blues : List ℕ) → List (List ℕ)
coloured reds greens blues =
    tabulate numbers (λ number. slice_index reds number ∷ slice_index greens number ∷ slice_index blues number ∷ [])

-- pixels of these reds, greens and blues, which nothing shines through
abbrev pub woven : (reds greens blues : List ℕ) → List ℕ
woven (red ∷ reds) (green ∷ greens) (blue ∷ blues) = red ∷ green ∷ blue ∷ 255 ∷ woven reds greens blues
woven reds greens blues = []
