-- Believed: the listing of a program: each line of the source with its address and its bytes, and then the symbols (this
-- profile).
use Rattle.std.specs.Prelude.{ℕ, zero, suc, ◌+◌, ◌-◌, ◌/◌, ◌%◌, ◌^◌, List, [], ◌∷◌, ◌++◌, length, drop, flat_map, codes}
use Rattle.std.specs.Fmt.{signed_decimal}
use Rattle.std.specs.Str.Lines.{lines}
use Rattle.pac_code.specs.Items.{bytes_of}
use Rattle.pac_asm_program.specs.declared.line.Line.{Line}
use Rattle.pac_asm_program.specs.declared.line.Line.TheVariants.{Blank, Skipped, Placed}
use Rattle.pac_asm_program.specs.Names.{Symbol}
use Rattle.pac_asm_program.specs.Programs.{Assembled}
use Rattle.pac_num.specs.Hexadecimal.{hex_word}
use Rattle.pac_num.specs.Columns.{byte_columns, row_bytes}
use Rattle.pac_out.specs.Pieces.{joined_pieces}
use Rattle.pac_listing.specs.Texts.{five_digits}

-- The first row of a line: its number, four places for the address, eight for bytes, and the line's text.
abbrev pub first_row : ℕ → List ℕ → List ℕ → List ℕ → List ℕ
first_row number address columns text =
    joined_pieces (five_digits number ∷ codes " " ∷ address ∷ codes " " ∷ columns ∷ codes " " ∷ text ∷ codes "\n" ∷ [])

-- a further row of bytes, the first of which has this address
abbrev pub further_row : ℕ → List ℕ → List ℕ
further_row at bytes = joined_pieces (codes "      " ∷ hex_word at ∷ codes " " ∷ byte_columns bytes ∷ codes "\n" ∷ [])

-- so many further rows of four bytes, the last of which may have fewer; addresses have 16 bits
abbrev pub next_row_address : ℕ → ℕ
next_row_address at = (at + row_bytes) % 2 ^ 16

unfoldable pub further_rows : ℕ → ℕ → List ℕ → List ℕ
further_rows zero at bytes = []
further_rows (suc rows) at bytes = further_row at bytes ++ further_rows rows (next_row_address at) (drop row_bytes bytes)

-- how many rows so many bytes fill
abbrev pub number_of_rows : ℕ → ℕ
number_of_rows bytes = (bytes + (row_bytes - 1)) / row_bytes

-- all bytes in further rows
abbrev pub all_rows : ℕ → List ℕ → List ℕ
all_rows at bytes = further_rows (number_of_rows (length bytes)) at bytes

-- The rows of a line by what it puts into the program: a line without bytes has blanks for address and bytes, a skipped
-- line blanks and a dash.
abbrev pub item_rows : ℕ → ℕ → List ℕ → List ℕ → List ℕ
item_rows number at [] text = first_row number (codes "    ") (codes "        ") text
item_rows number at (byte ∷ bytes) text =
    first_row number (hex_word at) (byte_columns (byte ∷ bytes)) text ++ all_rows (next_row_address at) (drop row_bytes (byte ∷ bytes))

unfoldable pub line_rows : ℕ → Line → List ℕ → List ℕ
line_rows number Blank text = first_row number (codes "    ") (codes "        ") text
line_rows number Skipped text = first_row number (codes "    ") (codes "-       ") text
line_rows number (Placed item) text = item_rows number item.at (bytes_of item) text

-- The lines from this number on, and their texts.
unfoldable pub lines_from : ℕ → List Line → List (List ℕ) → List ℕ
lines_from number [] texts = []
lines_from number (line ∷ lines) [] = []
lines_from number (line ∷ lines) (text ∷ texts) = line_rows number line text ++ lines_from (number + 1) lines texts

-- a symbol: its name, and its number in decimal
unfoldable pub symbol_row : Symbol → List ℕ
symbol_row named = joined_pieces (named.0 ∷ codes " " ∷ signed_decimal named.1 ∷ codes "\n" ∷ [])

abbrev pub symbol_rows : List Symbol → List ℕ
symbol_rows symbols = codes "SYMBOLS\n" ++ flat_map symbol_row symbols

-- the listing of the program that a source became
unfoldable pub listing : Assembled → List ℕ → List ℕ
listing program source = lines_from 1 program.lines (lines source) ++ symbol_rows program.symbols
