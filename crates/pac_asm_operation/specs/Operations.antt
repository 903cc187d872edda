-- Believed: an operation of the source: the rows of the instruction table that it fits, and the instruction that it is
-- (Zilog Z80 CPU User Manual UM0080 for the forms; the ranges of numbers are this profile's).
use Rattle.std.specs.Prelude.{ℕ, ◌+◌, ◌-◌, ◌/◌, ◌%◌, ◌==◌, ℤ, pos, negsuc, ◌-ℤ◌, int_le, nat_lt, unsigned_abs, Bool, true, false, ◌&&◌}
use Rattle.std.specs.Prelude.{if◌then◌else◌}
use Rattle.std.specs.Prelude.{List, [], ◌∷◌, length, Option, Some, None, option_map, is_some, unwrap_or, position, Result, Ok, Err}
use Rattle.std.specs.Option.{ok_or, option_and_then}
use Rattle.std.specs.Result.{result_map_both}
use Rattle.std.specs.Ordering.{int_eq}
use Rattle.pac_lex.specs.Results.{◌>>=◌}
use Rattle.pac_lex.specs.Tokens.{Lexeme}
use Rattle.pac_expr.specs.declared.evaluation.ValueError.{ValueError}
use Rattle.pac_expr.specs.declared.evaluation.ValueError.TheVariants as errors
use Rattle.pac_expr.specs.Trees.{Tree}
use Rattle.pac_expr.specs.Values as expressions
use Rattle.pac_table.specs.declared.operands.Shape.{Shape}
use Rattle.pac_table.specs.declared.operands.NumberKind.{NumberKind}
use Rattle.pac_table.specs.declared.operands.NumberKind.TheVariants as kind
use Rattle.pac_table.specs.declared.operands.Shape.TheVariants as shape
use Rattle.pac_table.specs.declared.table.Row.{Row}
use Rattle.pac_table.specs.declared.patterns.Immediate.{Immediate}
use Rattle.pac_table.specs.declared.patterns.Immediate.TheVariants as immediate
use Rattle.pac_table.specs.declared.patterns.Pattern.{Pattern}
use Rattle.pac_table.specs.Patterns.{lists, word_limit, code_bytes, immediate_bytes}
use Rattle.pac_table.specs.Table.{table}
use Rattle.pac_table.specs.Instructions.{Instruction, row_at}
use Rattle.pac_table_names.specs.Names.{value_named, is_same_name, value_of_name, written_operands}
use Rattle.pac_asm_operation.specs.declared.operand.Operand.{Operand}
use Rattle.pac_asm_operation.specs.declared.operand.Operand.TheVariants.{Named, AlternateAf, AtName, Indexed, Memory, Value}
use Rattle.pac_asm_operation.specs.declared.fault.OperationFault.{OperationFault}
use Rattle.pac_asm_operation.specs.declared.fault.OperationFault.TheVariants as faults
use Rattle.pac_asm_operation.specs.Operands.{parts_at_commas, operands_of_parts}

-- ---- form

-- Whether an operand is written as a shape says, whatever its number is: a name, `AF'`, a name in parentheses, one with a displacement, an
-- address, a number. A name in parentheses is also the form with a displacement, of 0.
abbrev pub is_form : {A : Type 0} → Shape → Operand A → Bool
is_form (shape.Named name) (Named other) = is_same_name name other
is_form (shape.FirstField names) (Named other) = is_some (value_of_name names other)
is_form (shape.SecondField names) (Named other) = is_some (value_of_name names other)
is_form shape.AlternateAf AlternateAf = true
is_form (shape.AtName name) (AtName other) = is_same_name name other
is_form (shape.Indexed name) (AtName other) = is_same_name name other
is_form (shape.Indexed name) (Indexed other x) = is_same_name name other
is_form (shape.AtNumber kind) (Memory x) = true
is_form (shape.Number kind) (Value x) = true
is_form _ _ = false

-- each operand is written as its shape says, and there are as many operands as shapes
abbrev pub are_forms : {A : Type 0} → List Shape → List (Operand A) → Bool
are_forms [] [] = true
are_forms (some ∷ shapes) (operand ∷ operands) = is_form some operand && are_forms shapes operands
are_forms _ _ = false

-- whether operands are written as those of a row, the value being that of the row's first field where it tells the name
abbrev pub fits_as : {A : Type 0} → ℕ → List (Operand A) → Row → Bool
fits_as value operands row = are_forms (written_operands row.operands value) operands

-- the value of the first field with which a row has this name
abbrev pub named_value : List ℕ → Row → ℕ
named_value word row = unwrap_or (value_named row.operands.mnemonic word) 0

-- whether a row has the operation's name, and its operands are written as the row's
abbrev pub fits : {A : Type 0} → List ℕ → List (Operand A) → Row → Bool
fits word operands row = is_some (value_named row.operands.mnemonic word) && fits_as (named_value word row) operands row

-- the first row that an operation fits
unfoldable pub row_for : {A : Type 0} → List ℕ → List (Operand A) → Option ℕ
row_for word operands = position (fits word operands) table

-- ---- operation

-- an operation: its name as it is written, and its operands
pub record Operation : Type 0 where
  pub word : List ℕ
  pub operands : List (Operand Tree)

-- the operation that a word is with the tokens after it, if it is one
unfoldable pub operation_of : List ℕ → List Lexeme → Option Operation
operation_of word tokens =
    option_and_then (λ operands. if is_some (row_for word operands) then Some (record { word = word; operands = operands }) else None)
    (operands_of_parts (parts_at_commas tokens))

-- how many bytes the codes of a row have
abbrev pub row_size : Row → ℕ
row_size row = length (code_bytes row.pattern.page 0 (immediate_bytes row.pattern.immediate 0 (pos 0)))

-- how many bytes an operation's code has, by its form alone
unfoldable pub operation_size : Operation → ℕ
operation_size operation = row_size (row_at (unwrap_or (row_for operation.word operation.operands) 0))

-- ---- numbers

abbrev pub is_in_interval : ℤ → ℤ → ℤ → Bool
is_in_interval low high n = int_le low n && int_le n high

-- whether a number is one of its kind; next is the address after the instruction
abbrev pub is_number : NumberKind → ℕ → ℤ → Bool
is_number kind.Byte next n = is_in_interval (negsuc 127) (pos 255) n
is_number kind.Word next n = is_in_interval (negsuc 32767) (pos 65535) n
is_number kind.Target next n = is_in_interval (negsuc 127) (pos 127) (n -ℤ pos next)
is_number kind.Bit next n = is_in_interval (pos 0) (pos 7) n
is_number kind.Restart next n = is_in_interval (pos 0) (pos 56) n && unsigned_abs n % 8 == 0
is_number (kind.Mode mode) next n = int_eq n (pos mode)

-- whether the number of an operand is one that is taken where it is written
abbrev pub takes : Shape → ℕ → Operand ℤ → Bool
takes _ next (Indexed name n) = is_in_interval (negsuc 127) (pos 127) n
takes (shape.AtNumber kind) next (Memory n) = is_number kind next n
takes (shape.Number kind) next (Value n) = is_number kind next n
takes _ next _ = true

abbrev pub all_take : List Shape → ℕ → List (Operand ℤ) → Bool
all_take (some ∷ shapes) next (operand ∷ operands) = takes some next operand && all_take shapes next operands
all_take _ next _ = true

-- ---- instruction

-- a number in two's complement, where `most` is the greatest number that its bits hold
abbrev pub complement_of_number : ℕ → ℤ → ℕ
complement_of_number most (pos n) = n
complement_of_number most (negsuc n) = most - n

-- an instruction with the number of an operand in the part of the code that holds it
abbrev pub with_number : NumberKind → ℕ → ℤ → Instruction → Instruction
with_number kind.Byte next n instruction = record instruction { word = complement_of_number 255 n }
with_number kind.Word next n instruction = record instruction { word = complement_of_number 65535 n }
with_number kind.Target next n instruction = record instruction { disp = n -ℤ pos next }
with_number kind.Bit next n instruction = record instruction { p = unsigned_abs n }
with_number kind.Restart next n instruction = record instruction { p = unsigned_abs n / 8 }
with_number (kind.Mode mode) next n instruction = instruction

-- an instruction with an operand in it
abbrev pub with_operand : Shape → ℕ → Operand ℤ → Instruction → Instruction
with_operand (shape.FirstField names) next (Named name) instruction = record instruction { p = unwrap_or (value_of_name names name) 0 }
with_operand (shape.SecondField names) next (Named name) instruction = record instruction { q = unwrap_or (value_of_name names name) 0 }
with_operand _ next (Indexed name n) instruction = record instruction { disp = n }
with_operand (shape.AtNumber kind) next (Memory n) instruction = with_number kind next n instruction
with_operand (shape.Number kind) next (Value n) instruction = with_number kind next n instruction
with_operand _ next _ instruction = instruction

abbrev pub with_all_operands : List Shape → ℕ → List (Operand ℤ) → Instruction → Instruction
with_all_operands (some ∷ shapes) next (operand ∷ operands) instruction =
    with_all_operands shapes next operands (with_operand some next operand instruction)
with_all_operands _ next _ instruction = instruction

-- the parts of the code that operands are in a row, whose first field holds this value at first
abbrev pub parts_as : ℕ → ℕ → List (Operand ℤ) → Row → Instruction
parts_as value next operands row =
    with_all_operands (written_operands row.operands value) next operands (record { row = 0; p = value; q = 0; word = 0; disp = pos 0 })

-- whether the code of a row can hold these parts
abbrev pub holds_displacement : Immediate → ℤ → Bool
holds_displacement immediate.Relative n = is_in_interval (negsuc 127) (pos 127) n
holds_displacement immediate.Displacement n = is_in_interval (negsuc 127) (pos 127) n
holds_displacement immediate.DisplacementByte n = is_in_interval (negsuc 127) (pos 127) n
holds_displacement _ n = int_eq n (pos 0)

abbrev pub holds : Pattern → Instruction → Bool
holds pattern parts =
    lists pattern.first parts.p && lists pattern.second parts.q
    && nat_lt parts.word (word_limit pattern.immediate) &&
    holds_displacement pattern.immediate parts.disp

-- whether operands fit a row of this size with their numbers, where the next instruction stands at this address
abbrev pub suits_as : ℕ → ℕ → ℕ → List (Operand ℤ) → Row → Bool
suits_as value size next operands row =
    row_size row == size && fits_as value operands row && all_take (written_operands row.operands value) next operands &&
    holds row.pattern (parts_as value next operands row)

-- whether an operation, by its name and its operands with their numbers, suits a row of this size
abbrev pub suits : List ℕ → ℕ → ℕ → List (Operand ℤ) → Row → Bool
suits word size next operands row =
    is_some (value_named row.operands.mnemonic word) && suits_as (named_value word row) size next operands row

-- an operation as an instruction of a row
abbrev pub instruction_in_row : List ℕ → ℕ → List (Operand ℤ) → ℕ → Instruction
instruction_in_row word next operands n =
    record (parts_as (named_value word (row_at n)) next operands (row_at n)) { row = n }

-- why an expression has no value, to an operation
abbrev pub fault_of_error : ValueError → OperationFault
fault_of_error errors.Undefined = faults.Undefined
fault_of_error errors.OutOfRange = faults.Arithmetic
fault_of_error errors.DivisionByZero = faults.Arithmetic

-- The first of two faults of a line. A name that isn't defined comes before arithmetic, and that before a range, wherever
-- they stand in it.
abbrev pub first_operation_fault : OperationFault → OperationFault → OperationFault
first_operation_fault faults.Undefined other = faults.Undefined
first_operation_fault faults.Arithmetic faults.Undefined = faults.Undefined
first_operation_fault faults.Arithmetic faults.Arithmetic = faults.Arithmetic
first_operation_fault faults.Arithmetic faults.Range = faults.Arithmetic
first_operation_fault faults.Range other = other

-- an operand with the value of its expression
abbrev pub valued_operand : (List ℕ → Option ℤ) → ℕ → Operand Tree → Result (Operand ℤ) OperationFault
valued_operand names here (Named name) = Ok (Named name)
valued_operand names here AlternateAf = Ok AlternateAf
valued_operand names here (AtName name) = Ok (AtName name)
valued_operand names here (Indexed name tree) = result_map_both (Indexed name) fault_of_error (expressions.tree_value names here tree)
valued_operand names here (Memory tree) = result_map_both Memory fault_of_error (expressions.tree_value names here tree)
valued_operand names here (Value tree) = result_map_both Value fault_of_error (expressions.tree_value names here tree)

-- what is made of two results, or the first fault
abbrev pub both_or_fault : {X Y Z : Type 0} → (X → Y → Z) → Result X OperationFault → Result Y OperationFault → Result Z OperationFault
both_or_fault make (Ok x) (Ok y) = Ok (make x y)
both_or_fault make (Ok x) (Err fault) = Err fault
both_or_fault make (Err fault) (Ok y) = Err fault
both_or_fault make (Err fault) (Err other) = Err (first_operation_fault fault other)

abbrev pub valued_operands : (List ℕ → Option ℤ) → ℕ → List (Operand Tree) → Result (List (Operand ℤ)) OperationFault
valued_operands names here [] = Ok []
valued_operands names here (operand ∷ operands) =
    both_or_fault (λ valued all. valued ∷ all) (valued_operand names here operand) (valued_operands names here operands)

-- the first row that takes the numbers
abbrev pub chosen_instruction : List ℕ → ℕ → ℕ → List (Operand ℤ) → Result Instruction OperationFault
chosen_instruction word size next operands =
    ok_or (option_map (instruction_in_row word next operands) (position (suits word size next operands) table)) faults.Range

-- The instruction that an operation is at an address, where names tells what names stand for: of the first row that it
-- fits with its numbers. Where there is none, an undefined name comes before a fault of arithmetic, and this before a
-- number out of range, wherever they stand in the operation.
unfoldable pub instruction_of : (List ℕ → Option ℤ) → ℕ → Operation → Result Instruction OperationFault
instruction_of names here operation =
    let size = operation_size operation in
    valued_operands names here operation.operands >>= chosen_instruction operation.word size (here + size)
