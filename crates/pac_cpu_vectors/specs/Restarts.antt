-- Law: Restarts (UM0080, "Call and Return Group"). Made by tools/make/make-vectors from tools/check/vectors.txt.
use Rattle.std.specs.Prelude.{List, [], ◌∷◌, None}
use Rattle.pac_bus.specs.Action.{Write}
use Rattle.pac_exec.specs.declared.regs.Regs.{Regs}
use Rattle.pac_cpu.specs.Power.{power_on_regs}
use Rattle.pac_cpu_vectors.specs.Vectors.{VectorLine, vector_line, Took}

abbrev usual_1 : Regs
usual_1 = record power_on_regs { f = 0xFF; sp = 0x4E02; pc = 0x1A49 }

-- the lines of the table
abbrev pub restarts_lines : List VectorLine
restarts_lines =
    -- RST 08H | CF | | 11 | SP=4E00 PC=0008 (4E01)=1A (4E00)=4A
    vector_line (0xCF ∷ []) usual_1 [] None (Took 11 ∷ [])
    (λ regs. record regs { r = 0x01; pc = 0x0008; sp = 0x4E00 }) (Write 0x4E01 0x1A ∷ Write 0x4E00 0x4A ∷ []) ∷
    -- RST 10H | D7 | | 11 | SP=4E00 PC=0010 (4E01)=1A (4E00)=4A
    vector_line (0xD7 ∷ []) usual_1 [] None (Took 11 ∷ [])
    (λ regs. record regs { r = 0x01; pc = 0x0010; sp = 0x4E00 }) (Write 0x4E01 0x1A ∷ Write 0x4E00 0x4A ∷ []) ∷
    -- RST 20H | E7 | | 11 | SP=4E00 PC=0020 (4E01)=1A (4E00)=4A
    vector_line (0xE7 ∷ []) usual_1 [] None (Took 11 ∷ [])
    (λ regs. record regs { r = 0x01; pc = 0x0020; sp = 0x4E00 }) (Write 0x4E01 0x1A ∷ Write 0x4E00 0x4A ∷ []) ∷
    -- RST 28H | EF | | 11 | SP=4E00 PC=0028 (4E01)=1A (4E00)=4A
    vector_line (0xEF ∷ []) usual_1 [] None (Took 11 ∷ [])
    (λ regs. record regs { r = 0x01; pc = 0x0028; sp = 0x4E00 }) (Write 0x4E01 0x1A ∷ Write 0x4E00 0x4A ∷ []) ∷
    -- RST 30H | F7 | | 11 | SP=4E00 PC=0030 (4E01)=1A (4E00)=4A
    vector_line (0xF7 ∷ []) usual_1 [] None (Took 11 ∷ [])
    (λ regs. record regs { r = 0x01; pc = 0x0030; sp = 0x4E00 }) (Write 0x4E01 0x1A ∷ Write 0x4E00 0x4A ∷ []) ∷
    []
