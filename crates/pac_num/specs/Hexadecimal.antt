-- Believed: upper-case hexadecimal digits, as listings, reports and the debugger print them; codes are ASCII.
use Rattle.std.specs.Prelude.{ℕ, ◌+◌, ◌/◌, ◌%◌, List, [], ◌∷◌, nat_lt, if◌then◌else◌}

-- the digit of a number below 16
abbrev pub hex_digit : ℕ → ℕ
hex_digit n = if nat_lt n 10 then 48 + n else 55 + n

-- the two digits of a byte and the four of a word
unfoldable pub hex_byte : ℕ → List ℕ
hex_byte byte = hex_digit (byte / 16) ∷ hex_digit (byte % 16) ∷ []

unfoldable pub hex_word : ℕ → List ℕ
hex_word word = hex_digit (word / 4096) ∷ hex_digit (word / 256 % 16) ∷ hex_digit (word / 16 % 16) ∷ hex_digit (word % 16) ∷ []
