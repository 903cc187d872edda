-- Believed: memory as a debugger shows it (this profile): bytes in rows of sixteen, and instructions in lines. `byte` is
-- the byte that the processor would read at an address; addresses wrap at 65,536.
use Rattle.std.specs.Prelude.{ℕ, zero, suc, ◌+◌, ◌-◌, ◌/◌, min, List, [], ◌∷◌, ◌++◌, codes}
use Rattle.std.specs.List.{flat_map}
use Rattle.pac_dis.specs.Numbers.{wrapped_address}
use Rattle.pac_dis.specs.Hexadecimal.{hex_byte, hex_word}
use Rattle.pac_dis.specs.Texts.{size_at}
use Rattle.pac_out.specs.Pieces.{joined_pieces}
use Rattle.pac_dis.specs.Lines.{line_text}

-- so many bytes from an address on
unfoldable pub bytes_from : (ℕ → ℕ) → ℕ → ℕ → List ℕ
bytes_from byte at zero = []
bytes_from byte at (suc more) = byte at ∷ bytes_from byte (wrapped_address (at + 1)) more

-- the most bytes of a row
abbrev pub memory_row_bytes : ℕ
memory_row_bytes = 16

-- a byte after a blank
abbrev pub spaced_byte : ℕ → List ℕ
spaced_byte byte = joined_pieces (codes " " ∷ hex_byte byte ∷ [])

-- the address of a row, and a colon
abbrev pub row_head : ℕ → List ℕ
row_head at = joined_pieces (hex_word at ∷ codes ":" ∷ [])

-- a row: the address of its first byte, and the bytes with a blank before each
unfoldable pub row_text : (ℕ → ℕ) → ℕ → ℕ → List ℕ
row_text byte at count = joined_pieces (row_head at ∷ flat_map spaced_byte (bytes_from byte at count) ∷ codes "\n" ∷ [])

-- so many rows of so many bytes
unfoldable pub rows_text : (ℕ → ℕ) → ℕ → ℕ → ℕ → List ℕ
rows_text byte zero at count = []
rows_text byte (suc rows) at count =
    row_text byte at (min count memory_row_bytes)
    ++ rows_text byte rows (wrapped_address (at + memory_row_bytes)) (count - memory_row_bytes)

-- so many bytes from an address on, in rows
abbrev pub memory_text : (ℕ → ℕ) → ℕ → ℕ → List ℕ
memory_text byte at count = rows_text byte ((count + (memory_row_bytes - 1)) / memory_row_bytes) at count

-- so many instructions from an address on, each in a line
unfoldable pub instructions_text : (ℕ → ℕ) → ℕ → ℕ → List ℕ
instructions_text byte zero at = []
instructions_text byte (suc more) at =
    line_text at (bytes_from byte at 4) ++ instructions_text byte more (wrapped_address (at + size_at (bytes_from byte at 4)))
