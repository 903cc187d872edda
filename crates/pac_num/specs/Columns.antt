-- Believed: bytes as digits in the columns of a row, as the listing, the disassembler and the debugger print them (this profile).
use Rattle.std.specs.Prelude.{ℕ, ◌-◌, List, ◌++◌, length, replicate, take, flat_map}
use Rattle.pac_num.specs.Hexadecimal.{hex_byte}

-- the most bytes that one row shows
abbrev pub row_bytes : ℕ
row_bytes = 4

-- a text left in so many places, with blanks after it
abbrev pub left_aligned : ℕ → List ℕ → List ℕ
left_aligned places text = text ++ replicate (places - length text) 32

-- the first four of these bytes, left in eight places
unfoldable pub byte_columns : List ℕ → List ℕ
byte_columns bytes = left_aligned 8 (flat_map hex_byte (take row_bytes bytes))
