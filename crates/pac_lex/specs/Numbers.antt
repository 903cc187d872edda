-- Believed: numbers of the source: digits, and a last letter for the base (this profile's source language).
use Rattle.std.specs.Prelude.{ℕ, ◌+◌, ◌-◌, ◌*◌, ◌||◌, ◌&&◌, ◌==◌, List, length, take, slice_index, fold}
use Rattle.std.specs.Prelude.{Option, Some, None, nat_lt, if◌then◌else◌}
use Rattle.std.specs.List.{list_all}
use Rattle.std.specs.Char.{is_ascii_digit}

-- what a digit counts: 0 to 9, and 10 to 35 for the letters in either case
abbrev pub value_of_digit : ℕ → ℕ
value_of_digit c = if is_ascii_digit c then c - 48 else (if nat_lt c 97 then c - 55 else c - 87)

-- the value of digits in a base, the first digit counting most
abbrev pub value_in_base : ℕ → List ℕ → ℕ
value_in_base base digits = fold (λ n c. n * base + value_of_digit c) 0 digits

-- a number of 16 bits, if each digit is one of the base
abbrev pub number_in_base : ℕ → List ℕ → Option ℕ
number_in_base base digits =
    if list_all (λ c. nat_lt (value_of_digit c) base) digits && nat_lt (value_in_base base digits) 65536
    then Some (value_in_base base digits) else None

-- the number that a run of letters and digits is. Its last letter, in either case, tells the base: H is
-- hexadecimal, B binary, O and Q octal, D decimal, and with another or none it is decimal.
abbrev pub numeral : List ℕ → Option ℕ
numeral run =
    let last = slice_index run (length run - 1) in let others = take (length run - 1) run in
    if last == 72 || last == 104 then number_in_base 16 others
    else (if last == 66 || last == 98 then number_in_base 2 others
    else (if last == 79 || last == 111 || last == 81 || last == 113 then number_in_base 8 others
    else (if last == 68 || last == 100 then number_in_base 10 others
    else number_in_base 10 run)))
