-- Believed: the numbers of a command line (this profile): decimal ones with a range, and addresses.
use Rattle.std.specs.Prelude.{ℕ, ◌&&◌, ◌==◌, List, length, Option, Some, None, nat_le, if◌then◌else◌}
use Rattle.std.specs.List.{list_all}
use Rattle.std.specs.Char.{is_ascii_digit, is_ascii_hexdigit}
use Rattle.pac_lex.specs.Numbers.{value_in_base}
use Rattle.pac_inputs.specs.Words.{value_of_decimal}

-- a decimal number from 1 to the most, with leading zeros or without
abbrev pub number_within : ℕ → List ℕ → Option ℕ
number_within most word =
    if list_all is_ascii_digit word && nat_le 1 (value_of_decimal word) && nat_le (value_of_decimal word) most
    then Some (value_of_decimal word) else None

-- an address: four hexadecimal digits, in either case
abbrev pub address_of : List ℕ → Option ℕ
address_of word = if length word == 4 && list_all is_ascii_hexdigit word then Some (value_in_base 16 word) else None
