-- Law: what is proved of the definitions of Texts.antt.
use Rattle.std.specs.Prelude.{ℕ, length, ◌<◌, ◌≤◌}
use Rattle.pac_table.specs.Instructions.{Instruction, IsInstruction}
use Rattle.pac_dis.specs.Texts.{instruction_text}

-- the most bytes that a text has, as `LD (IX+05H),0FFH` does
abbrev pub longest_text : ℕ
longest_text = 16

abbrev pub TextsFit : Type 0
TextsFit =
    (at : ℕ) (instruction : Instruction) → IsInstruction instruction →
    (0 < length (instruction_text at instruction)) × (length (instruction_text at instruction) ≤ longest_text)
