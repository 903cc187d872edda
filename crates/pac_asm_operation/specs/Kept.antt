-- For proofs: what an operation keeps, and what its rows are asked, by their numbers.
use denote.Ref.{Bor}
use Rattle.std.specs.Prelude.{◌≡◌, ℕ, ◌<◌, ℤ, Bool, List, [], ◌∷◌, map, length, Option, Some, None, IfSome, Result, Ok, Err}
use Rattle.std.specs.List.{All}
use Rattle.pac_lex.specs.declared.token.Token.{Token}
use Rattle.pac_lex.specs.Tokens.{Lexeme}
use Rattle.pac_lex.specs.TokensProofs.{views}
use Rattle.pac_expr.specs.Trees.{Tree}
use Rattle.pac_expr.specs.Values as expressions
use Rattle.pac_table.specs.Instructions.{Instruction, row_at, row_count}
use Rattle.pac_table_names.specs.ByName.{AreNamed, family_in, rows_named}
use Rattle.pac_asm_operation.specs.declared.operand.Operand.{Operand}
use Rattle.pac_asm_operation.specs.declared.fault.OperationFault.{OperationFault}
use Rattle.pac_asm_operation.specs.declared.coding.Parts.{Parts}
use Rattle.pac_asm_operation.specs.declared.operand.Operand.TheVariants.{Named, AlternateAf, AtName, Indexed, Memory, Value}
use Rattle.pac_asm_operation.specs.Operations.{Operation, operation_size, fault_of_error, suits_as, parts_as}
use Rattle.pac_asm_operation.specs.Views.{tree_of_tokens, IsKnown, IsKnownIf, operand_pair, seen_operand, seen_operands}

-- an operation as it is kept: the tokens of its expressions stand for their trees
pub record KeptOperation : Type 0 where
  pub word : List ℕ
  pub operands : List (Operand (List Lexeme))

abbrev pub with_tree : Operand (List Lexeme) → Operand Tree
with_tree (Named name) = Named name
with_tree AlternateAf = AlternateAf
with_tree (AtName name) = AtName name
with_tree (Indexed name tokens) = Indexed name (tree_of_tokens tokens)
with_tree (Memory tokens) = Memory (tree_of_tokens tokens)
with_tree (Value tokens) = Value (tree_of_tokens tokens)

-- the operation that is kept
abbrev pub seen_operation : KeptOperation → Operation
seen_operation kept = record { word = kept.word; operands = map with_tree kept.operands }

-- the tokens of an operand without where they lie in memory
abbrev pub without_place : Operand (Bor (List Token)) → Operand (List Lexeme)
without_place (Named name) = Named name
without_place AlternateAf = AlternateAf
without_place (AtName name) = AtName name
without_place (Indexed name tokens) = Indexed name (views tokens.now)
without_place (Memory tokens) = Memory (views tokens.now)
without_place (Value tokens) = Value (views tokens.now)

abbrev pub kept_operation : List ℕ → Option (Operand (Bor (List Token))) → Option (Operand (Bor (List Token))) → KeptOperation
kept_operation word first second = record { word = word; operands = map without_place (operand_pair first second) }

-- the rows with the name, the size by the form, and operands whose tokens are expressions
pub record IsKept (word rows : List ℕ) (family size : ℕ) (first second : Option (Operand (Bor (List Token)))) : Type 0 where
  pub are_rows : rows ≡ rows_named word
  pub are_named : AreNamed word family rows
  pub are_below : All (λ n. n < row_count) rows
  pub is_size : size ≡ operation_size (seen_operation (kept_operation word first second))
  pub is_first : IsKnownIf first
  pub is_second : IsKnownIf second

-- the operands that were valued, if they were
abbrev pub pair_of : Result (Option (Operand ℤ) × Option (Operand ℤ)) OperationFault → Result (List (Operand ℤ)) OperationFault
pair_of (Ok operands) = Ok (operand_pair operands.0 operands.1)
pair_of (Err fault) = Err fault

abbrev pub number_or_fault : expressions.ValueResult → Result ℤ OperationFault
number_or_fault (Ok n) = Ok n
number_or_fault (Err fault) = Err (fault_of_error fault)

-- the parts of a code, of no row yet
abbrev pub as_instruction : Parts → Instruction
as_instruction parts = record { row = 0; p = parts.p; q = parts.q; word = parts.word; disp = parts.disp }

-- the parts in the row of a number
abbrev pub with_row_number : ℕ → Instruction → Instruction
with_row_number n parts = record { row = n; p = parts.p; q = parts.q; word = parts.word; disp = parts.disp }

-- whether operands suit the row of a number, and the instruction that they are there, where this value is what the name
-- tells in a family
abbrev pub suits_row : ℕ → ℕ → ℕ → List (Operand ℤ) → ℕ → Bool
suits_row family size next operands n = suits_as (family_in (row_at n).operands.mnemonic family) size next operands (row_at n)

abbrev pub parts_in_row : ℕ → ℕ → List (Operand ℤ) → ℕ → Instruction
parts_in_row family next operands n =
    record (parts_as (family_in (row_at n).operands.mnemonic family) next operands (row_at n)) { row = n }

-- what operands were read, or why the operation has none that fit
abbrev pub FindsOperands : Option (Option (Operand (Bor (List Token))) × Option (Operand (Bor (List Token)))) →
    Option (List (Operand Tree)) →
    Type 0
FindsOperands None operands = IfSome operands (λ all. 2 < length all)
FindsOperands (Some found) operands = IsKnownIf found.0 × IsKnownIf found.1 × (operands ≡ Some (seen_operands found.0 found.1))

-- the one operand that is read, or why there isn't one
abbrev pub FindsLastOperand : Option (Operand (Bor (List Token))) → Option (List (Operand Tree)) → Type 0
FindsLastOperand None operands = IfSome operands (λ all. 1 < length all)
FindsLastOperand (Some found) operands = IsKnown found × (operands ≡ Some (seen_operand found ∷ []))
