-- For proofs: what proofs say of the definitions of Texts.antt.
use Rattle.pac_table.specs.Instructions.{Instruction, IsInstruction, code}
use Rattle.std.specs.Prelude.{List, ℕ, length, slice_index, ◌≡◌}
use Rattle.pac_code.specs.Codes.{Begins}
use Rattle.pac_dis.specs.Texts.{instruction_text, data_text}

-- the text of what bytes begin with, told without a search: they begin with the code of an instruction, which is shown, or of none
abbrev pub BeginsWith : Instruction → List ℕ → Type 0
BeginsWith instruction bytes = IsInstruction instruction × Begins (code instruction) bytes

pub record Disassembles (at : ℕ) (bytes text : List ℕ) (size : ℕ) : Type 0 where
  pub found :
      (instruction : Instruction) → BeginsWith instruction bytes →
      (text ≡ instruction_text at instruction) × (size ≡ length (code instruction))
  pub alone :
      ((instruction : Instruction) → BeginsWith instruction bytes → ⊥) →
      (text ≡ data_text (slice_index bytes 0)) × (size ≡ 1)
