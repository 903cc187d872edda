-- Believed: the text of an instruction (Zilog Z80 CPU User Manual UM0080 for the names; the form of the numbers is this
-- profile's): the name of the operation in capitals, a blank, and the operands with commas between them, as `LD (IX+05H),0FFH`.
-- Names and what is written for an operand are those of the table, which sources are read by.
use Rattle.std.specs.Prelude.{ℕ, ◌+◌, ◌*◌, Option, unwrap_or, List, [], ◌∷◌, ◌++◌, length, map, slice_index, codes}
use Rattle.std.specs.Option.{option_map_or}
use Rattle.pac_table.specs.declared.operands.Shape.{Shape}
use Rattle.pac_table.specs.declared.operands.Name.{Name}
use Rattle.pac_table.specs.declared.operands.NumberKind.{NumberKind}
use Rattle.pac_table.specs.declared.operands.NumberKind.TheVariants as kind
use Rattle.pac_table.specs.declared.operands.Shape.TheVariants.{Absent, Named, AlternateAf, AtName, FirstField, SecondField}
use Rattle.pac_table.specs.declared.operands.Shape.TheVariants.{Indexed, Number, AtNumber}
use Rattle.pac_table.specs.Mnemonics.{operation_name}
use Rattle.pac_table_names.specs.Names.{text_of_name, name_at, written_operands}
use Rattle.pac_table.specs.Instructions.{Instruction, operands_of, code}
use Rattle.pac_num.specs.Numbers.{wrapped_address, displaced_address}
use Rattle.pac_dis.specs.Numerals.{byte_text, word_text, digit_text, displacement_text}
use Rattle.pac_dis.specs.Front.{front_instruction}

-- the address after the code of an instruction, modulo 65,536
abbrev pub address_after : ℕ → Instruction → ℕ
address_after at instruction = wrapped_address (at + length (code instruction))

-- a number of an instruction that stands at an address: a relative jump shows the address to which it goes
abbrev pub number_text : ℕ → Instruction → NumberKind → List ℕ
number_text at instruction kind.Byte = byte_text instruction.word
number_text at instruction kind.Word = word_text instruction.word
number_text at instruction kind.Target = word_text (displaced_address (address_after at instruction) instruction.disp)
number_text at instruction kind.Bit = digit_text instruction.p
number_text at instruction kind.Restart = byte_text (8 * instruction.p)
number_text at instruction (kind.Mode number) = digit_text number

-- the name of a field's value
abbrev pub name_text : Option Name → List ℕ
name_text name = option_map_or text_of_name name []

abbrev pub in_parentheses : List ℕ → List ℕ
in_parentheses inner = codes "(" ++ inner ++ codes ")"

-- an operand of a shape
abbrev pub operand_text : ℕ → Instruction → Shape → List ℕ
operand_text at instruction Absent = []
operand_text at instruction (Named name) = text_of_name name
operand_text at instruction AlternateAf = codes "AF'"
operand_text at instruction (AtName name) = in_parentheses (text_of_name name)
operand_text at instruction (FirstField names) = name_text (name_at names instruction.p)
operand_text at instruction (SecondField names) = name_text (name_at names instruction.q)
operand_text at instruction (Indexed name) = in_parentheses (text_of_name name ++ displacement_text instruction.disp)
operand_text at instruction (Number kind) = number_text at instruction kind
operand_text at instruction (AtNumber kind) = in_parentheses (number_text at instruction kind)

-- the mark before the first operand, and the one before each further operand
abbrev pub blank_code : ℕ
blank_code = 32

abbrev pub comma_code : ℕ
comma_code = 44

-- operands, the first after a mark and each further one after a comma
abbrev pub marked_operands : ℕ → List (List ℕ) → List ℕ
marked_operands mark [] = []
marked_operands mark (operand ∷ operands) = mark ∷ operand ++ marked_operands comma_code operands

-- the operands of an instruction, in the order in which they are written
abbrev pub operand_texts : ℕ → Instruction → List (List ℕ)
operand_texts at instruction = map (operand_text at instruction) (written_operands (operands_of instruction) instruction.p)

-- the name of an instruction's operation
abbrev pub operation_text : Instruction → List ℕ
operation_text instruction = unwrap_or (operation_name (operands_of instruction).mnemonic instruction.p) []

-- an instruction that stands at an address
unfoldable pub instruction_text : ℕ → Instruction → List ℕ
instruction_text at instruction = operation_text instruction ++ marked_operands blank_code (operand_texts at instruction)

-- a byte that begins no instruction
unfoldable pub data_text : ℕ → List ℕ
data_text byte = codes "DEFB " ++ byte_text byte

-- the text of what bytes begin with, the first of them at an address, and how many of them it has: the instruction whose
-- whole code they begin with, or else the first of them alone
abbrev pub text_at : ℕ → List ℕ → List ℕ
text_at at bytes = option_map_or (instruction_text at) (front_instruction bytes) (data_text (slice_index bytes 0))

abbrev pub size_at : List ℕ → ℕ
size_at bytes = option_map_or (λ instruction. length (code instruction)) (front_instruction bytes) 1
