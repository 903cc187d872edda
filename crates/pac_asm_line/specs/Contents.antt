-- Believed: how many bytes a statement takes, and what it places. Numbers are in whole numbers of 32 bits with their
-- sign; a negative byte or word is two's complement, and a word stands low byte first (UM0080).
use Rattle.std.specs.Prelude.{ℕ, ℤ, pos, negsuc, ◌*◌, List, [], ◌∷◌, ◌++◌, length, replicate}
use Rattle.std.specs.Prelude.{Option, Some, None, Result, Ok, Err, if◌then◌else◌}
use Rattle.std.specs.List.{sum_by}
use Rattle.std.specs.Result.{result_map_both}
use Rattle.pac_num.specs.Numbers.{low_byte, high_byte}
use Rattle.pac_code.specs.Items.{Content, Code, Data}
use Rattle.pac_expr.specs.Trees.{Tree}
use Rattle.pac_expr.specs.Values.{ValueResult, tree_value}
use Rattle.pac_asm_operation.specs.declared.fault.OperationFault.{OperationFault}
use Rattle.pac_asm_operation.specs.declared.fault.OperationFault.TheVariants.{Range}
use Rattle.pac_asm_operation.specs.Operations as operations
use Rattle.pac_asm_operation.specs.Operations.{is_in_interval, complement_of_number, fault_of_error, both_or_fault}
use Rattle.pac_asm_line.specs.Statements.{DataPart, text, value, Statement, bytes, words, space, operation}

abbrev pub part_size : DataPart → ℕ
part_size (text characters) = length characters
part_size (value tree) = 1

-- How many bytes a statement takes, by its form alone. Those of a space are the value of its first expression, which is
-- no matter of form: it counts as none here.
abbrev pub statement_size : Statement → ℕ
statement_size (bytes parts) = sum_by part_size parts
statement_size (words numbers) = 2 * length numbers
statement_size (operation written) = operations.operation_size written
statement_size statement = 0

-- what an expression or a line gives, or its fault
abbrev pub OrFault : Type 0 → Type 0
OrFault X = Result X OperationFault

-- what a function makes of what is given
abbrev pub map_unless_fault : {X Y : Type 0} → (X → Y) → OrFault X → OrFault Y
map_unless_fault f given = result_map_both f (λ fault. fault) given

-- a byte, and a fill: -128 to 255; a word: -32768 to 65535
abbrev pub byte_of_number : ℤ → OrFault ℕ
byte_of_number number = if is_in_interval (negsuc 127) (pos 255) number then Ok (complement_of_number 255 number) else Err Range

abbrev pub word_of_number : ℤ → OrFault ℕ
word_of_number number = if is_in_interval (negsuc 32767) (pos 65535) number then Ok (complement_of_number 65535 number) else Err Range

-- the value of an expression as a byte or as a word
abbrev pub fitted_value : (ℤ → OrFault ℕ) → ValueResult → OrFault ℕ
fitted_value kind (Ok number) = kind number
fitted_value kind (Err fault) = Err (fault_of_error fault)

abbrev pub byte_value : (List ℕ → Option ℤ) → ℕ → Tree → OrFault ℕ
byte_value names here tree = fitted_value byte_of_number (tree_value names here tree)

abbrev pub word_value : (List ℕ → Option ℤ) → ℕ → Tree → OrFault ℕ
word_value names here tree = fitted_value word_of_number (tree_value names here tree)

-- bytes one after another, or the first fault
abbrev pub joined_bytes : OrFault (List ℕ) → OrFault (List ℕ) → OrFault (List ℕ)
joined_bytes some more = both_or_fault (λ xs ys. xs ++ ys) some more

abbrev pub gathered_bytes : {X : Type 0} → (X → OrFault (List ℕ)) → List X → OrFault (List ℕ)
gathered_bytes f [] = Ok []
gathered_bytes f (x ∷ xs) = joined_bytes (f x) (gathered_bytes f xs)

-- the bytes of an operand of a DEFB, and of one of a DEFW
abbrev pub part_bytes : (List ℕ → Option ℤ) → ℕ → DataPart → OrFault (List ℕ)
part_bytes names here (text characters) = Ok characters
part_bytes names here (value tree) = map_unless_fault (λ byte. byte ∷ []) (byte_value names here tree)

abbrev pub word_bytes : (List ℕ → Option ℤ) → ℕ → Tree → OrFault (List ℕ)
word_bytes names here tree = map_unless_fault (λ word. low_byte word ∷ high_byte word ∷ []) (word_value names here tree)

-- the byte that a space is filled with, 0 where none is told
abbrev pub fill_value : (List ℕ → Option ℤ) → ℕ → Option Tree → OrFault ℕ
fill_value names here None = Ok 0
fill_value names here (Some tree) = byte_value names here tree

-- What a statement places, if it places something, or the line's fault. names tells what names stand for, here is the
-- address of the line, and size how many bytes a space has.
unfoldable pub content_of : (List ℕ → Option ℤ) → ℕ → ℕ → Statement → OrFault (Option Content)
content_of names here size (bytes parts) = map_unless_fault (λ found. Some (Data found)) (gathered_bytes (part_bytes names here) parts)
content_of names here size (words numbers) = map_unless_fault (λ found. Some (Data found)) (gathered_bytes (word_bytes names here) numbers)
content_of names here size (space count fill) = map_unless_fault (λ byte. Some (Data (replicate size byte))) (fill_value names here fill)
content_of names here size (operation written) =
    map_unless_fault (λ instruction. Some (Code instruction)) (operations.instruction_of names here written)
content_of names here size statement = Ok None
