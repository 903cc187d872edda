-- Believed: the bytes of a line, by what they can begin or go on with. Codes are ASCII.
use Rattle.std.specs.Prelude.{ℕ, Bool, List, drop, ◌||◌, ◌&&◌, ◌==◌, nat_le}
use Rattle.std.specs.List.{prefix_len}
use Rattle.std.specs.Char.{is_ascii_alphabetic, is_ascii_alphanumeric}

-- a tab or a space
abbrev pub is_blank : ℕ → Bool
is_blank b = b == 9 || b == 32

-- `;`, after which the line is comment
abbrev pub is_comment_start : ℕ → Bool
is_comment_start b = b == 59

-- the quote round a text
abbrev pub is_quote : ℕ → Bool
is_quote b = b == 39

-- a letter or `_`
abbrev pub is_name_start : ℕ → Bool
is_name_start b = is_ascii_alphabetic b || b == 95

-- a letter, a digit or `_`
abbrev pub is_name_byte : ℕ → Bool
is_name_byte b = is_ascii_alphanumeric b || b == 95

-- what a text can be made of: a tab, or a byte from 20H to 7EH
abbrev pub is_printable : ℕ → Bool
is_printable b = b == 9 || (nat_le 32 b && nat_le b 126)

-- what follows the first blanks of a line
abbrev pub after_gap : List ℕ → List ℕ
after_gap line = drop (prefix_len is_blank line) line
