-- For proofs: lines of which two stand in one line of bytes.
use Rattle.std.specs.Prelude.{ℕ, ◌/◌, ◌%◌, Bool, List, [], if◌then◌else◌, nat_lt, slice_index, slice_index_or}
use Rattle.pac_num.specs.Tabulate.{tabulate}
use Rattle.pac_tiles.specs.Tiles.{height, width}
use Rattle.pac_colour.specs.Colours.{numbers}

-- a byte's low half, or its high one
abbrev pub half_of : (low : Bool) → ℕ → ℕ
half_of low byte = if low then byte % numbers else byte / numbers

-- the lines of bytes: half as many as a picture has
abbrev pub pair_count : ℕ
pair_count = height / 2

-- the number at x of line y: a low half for the upper lines, a high half for the lower ones
abbrev pub unpacked_number : List (List ℕ) → (y x : ℕ) → ℕ
unpacked_number pairs y x = half_of (nat_lt y pair_count) (slice_index (slice_index_or pairs (y % pair_count) []) x)

abbrev pub unpacked : List (List ℕ) → List (List ℕ)
unpacked pairs = tabulate height (λ y. tabulate width (unpacked_number pairs y))
