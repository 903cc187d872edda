-- Believed: what some bytes begin with: the instruction of the one row that matches within them, if there is one.
use Rattle.std.specs.Prelude.{ℕ, nat_le, if◌then◌else◌, Option, Some, None, option_and_then, List, [], ◌∷◌, length, slice_index}
use Rattle.pac_table.specs.Instructions.{Instruction, code, decoded_instruction}

-- the first four bytes, 0 for each that isn't there
abbrev pub first_four : List ℕ → List ℕ
first_four bytes = slice_index bytes 0 ∷ slice_index bytes 1 ∷ slice_index bytes 2 ∷ slice_index bytes 3 ∷ []

-- an instruction whose code has at most so many bytes
abbrev pub fitting_instruction : ℕ → Instruction → Option Instruction
fitting_instruction count instruction = if nat_le (length (code instruction)) count then Some instruction else None

-- the instruction whose whole code the bytes begin with; a code that they cut short is none
unfoldable pub front_instruction : List ℕ → Option Instruction
front_instruction bytes = option_and_then (fitting_instruction (length bytes)) (decoded_instruction (first_four bytes))
