-- Believed: what the words of a script's line say: a count of frames, and names of inputs (this profile).
use Rattle.std.specs.Prelude.{ℕ, Bool, ◌+◌, ◌-◌, ◌*◌, ◌&&◌, ◌==◌, false, List, [], ◌∷◌, fold}
use Rattle.std.specs.Prelude.{Option, Some, None, nat_le, if◌then◌else◌, is_some, unwrap_or}
use Rattle.std.specs.List.{list_all, slice_split}
use Rattle.std.specs.Char.{is_ascii_digit}
use Rattle.std.specs.Int.RustNames.{bit_or}
use Rattle.bitflags.specs.Sets.{find_name}
use Rattle.pac_inputs.specs.Inputs.{input_bits}
use Rattle.pac_inputs.specs.Stretches.{most_frames}

-- `,`, which parts names
abbrev pub is_comma_byte : ℕ → Bool
is_comma_byte b = b == 44

-- the word `-`, which names no input
abbrev pub is_dash : List ℕ → Bool
is_dash (b ∷ []) = b == 45
is_dash word = false

-- the number of decimal digits, the first digit counting most
abbrev pub value_of_decimal : List ℕ → ℕ
value_of_decimal digits = fold (λ n c. n * 10 + (c - 48)) 0 digits

-- the count that a word tells: a decimal number from 1 to the most frames, with leading zeros or without
abbrev pub frame_count : List ℕ → Option ℕ
frame_count word =
    if list_all is_ascii_digit word && nat_le 1 (value_of_decimal word) && nat_le (value_of_decimal word) most_frames
    then Some (value_of_decimal word) else None

-- the inputs with these names held, and these bits before; a name that is none of an input has no answer
abbrev pub with_names : ℕ → List (List ℕ) → Option ℕ
with_names held names =
    if list_all (λ name. is_some (find_name input_bits name)) names
    then Some (fold (λ bits name. bit_or bits (unwrap_or (find_name input_bits name) 0)) held names) else None

-- the inputs that a word tells: none for `-`, and else those of the names between its commas
abbrev pub inputs_named : List ℕ → Option ℕ
inputs_named word = if is_dash word then Some 0 else with_names 0 (slice_split is_comma_byte word)
