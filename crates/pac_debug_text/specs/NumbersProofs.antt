-- For proofs: what proofs say of the definitions of Numbers.antt.
use Rattle.std.specs.Prelude.{ℕ, Option, Some, None, if◌then◌else◌}
use Rattle.std.specs.Char.{is_ascii_hexdigit}
use Rattle.pac_lex.specs.Numbers.{value_of_digit}

-- what one hexadecimal digit counts, in either case
abbrev pub hex_digit_number : ℕ → Option ℕ
hex_digit_number c = if is_ascii_hexdigit c then Some (value_of_digit c) else None
