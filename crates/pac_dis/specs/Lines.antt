-- Believed: the lines of a disassembly (this profile): the address of what stands there, its bytes and its text.
use Rattle.std.specs.Prelude.{ℕ, zero, suc, ◌+◌, ◌-◌, List, [], ◌∷◌, ◌++◌, take, codes}
use Rattle.pac_num.specs.Numbers.{wrapped_address}
use Rattle.pac_num.specs.Hexadecimal.{hex_word}
use Rattle.pac_num.specs.Columns.{byte_columns}
use Rattle.pac_out.specs.Pieces.{joined_pieces}
use Rattle.pac_dis.specs.Texts.{text_at, size_at}

-- the bytes of the instruction that bytes begin with, or the first of them alone
abbrev pub code_at : List ℕ → List ℕ
code_at bytes = take (size_at bytes) bytes

-- the line of what some bytes begin with, the first of them at an address: the address, the bytes left in eight places, and
-- the text
unfoldable pub line_text : ℕ → List ℕ → List ℕ
line_text at bytes =
    joined_pieces (hex_word at ∷ codes " " ∷ byte_columns (code_at bytes) ∷ codes " " ∷ text_at at bytes ∷ codes "\n" ∷ [])

-- The lines of bytes, the first of them at an address, where so many of them stand in a line before: each other byte
-- begins a line. Addresses have 16 bits.
unfoldable pub lines_after : ℕ → ℕ → List ℕ → List ℕ
lines_after shown at [] = []
lines_after zero at (byte ∷ bytes) =
    line_text at (byte ∷ bytes) ++ lines_after (size_at (byte ∷ bytes) - 1) (wrapped_address (at + 1)) bytes
lines_after (suc shown) at (byte ∷ bytes) = lines_after shown (wrapped_address (at + 1)) bytes

-- the disassembly of bytes that stand from address 0 on
abbrev pub disassembly : List ℕ → List ℕ
disassembly bytes = lines_after 0 0 bytes
