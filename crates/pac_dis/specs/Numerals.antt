-- Believed: the numbers in an instruction's text (this profile): upper-case hexadecimal digits, as many as the number
-- has, and an H; a 0 before a leading letter, so that the word reads as a number and no name.
use Rattle.std.specs.Prelude.{ℕ, ℤ, pos, negsuc, ◌+◌, ◌/◌, nat_lt, if◌then◌else◌, List, [], ◌∷◌, ◌++◌, codes}
use Rattle.pac_num.specs.Hexadecimal.{hex_byte, hex_word}

-- a 0 before digits whose first is a letter
abbrev pub leading_zero : ℕ → List ℕ
leading_zero first = if nat_lt first 10 then [] else codes "0"

-- a byte and a word: `42H`, `0DDH`, `4040H`, `0FFFFH`
unfoldable pub byte_text : ℕ → List ℕ
byte_text byte = leading_zero (byte / 16) ++ hex_byte byte ++ codes "H"

unfoldable pub word_text : ℕ → List ℕ
word_text word = leading_zero (word / 4096) ++ hex_word word ++ codes "H"

-- a displacement, with its sign: `+05H`, `-03H`, `+00H`, `-80H`
unfoldable pub displacement_text : ℤ → List ℕ
displacement_text (pos d) = codes "+" ++ byte_text d
displacement_text (negsuc d) = codes "-" ++ byte_text (d + 1)

-- a number below 10 as one digit
abbrev pub digit_text : ℕ → List ℕ
digit_text n = (48 + n) ∷ []
