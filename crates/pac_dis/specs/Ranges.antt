-- For proofs: that the numbers which are written as a byte or as one digit are in that range, in each instruction of the table.
use Rattle.std.specs.Prelude.{◌<◌, ⊤, List, [], ◌∷◌}
use Rattle.pac_table.specs.declared.operands.Shape.{Shape}
use Rattle.pac_table.specs.declared.operands.NumberKind.{NumberKind}
use Rattle.pac_table.specs.declared.operands.NumberKind.TheVariants as kind
use Rattle.pac_table.specs.declared.operands.Shape.TheVariants.{Number, AtNumber}
use Rattle.pac_table.specs.Instructions.{Instruction}

-- a number of an instruction is in range: n is a byte, and an interrupt mode one digit
abbrev pub IsShown : Instruction → NumberKind → Type 0
IsShown instruction kind.Byte = instruction.word < 256
IsShown instruction (kind.Mode number) = number < 10
IsShown instruction _ = ⊤

-- the number of an operand is in range, if it has one
abbrev pub ShowsNumbers : Instruction → Shape → Type 0
ShowsNumbers instruction (Number kind) = IsShown instruction kind
ShowsNumbers instruction (AtNumber kind) = IsShown instruction kind
ShowsNumbers instruction _ = ⊤

-- the number of each operand is in range
abbrev pub ShowsEach : Instruction → List Shape → Type 0
ShowsEach instruction [] = ⊤
ShowsEach instruction (shape ∷ shapes) = ShowsNumbers instruction shape × ShowsEach instruction shapes
