-- Law: Loads of each pair (UM0080, "16-Bit Load Group"). Made by tools/make/make-vectors from tools/check/vectors.txt.
use Rattle.std.specs.Prelude.{List, [], ◌∷◌, None}
use Rattle.pac_bus.specs.Action.{Action, Write}
use Rattle.pac_exec.specs.declared.regs.Regs.{Regs}
use Rattle.pac_cpu.specs.Power.{power_on_regs}
use Rattle.pac_cpu_vectors.specs.Vectors.{VectorLine, vector_line, Took}

abbrev usual_1 : Regs
usual_1 = record power_on_regs { f = 0xFF; b = 0x12; c = 0x34; d = 0x3D; e = 0x4E; h = 0x42; l = 0x5F; sp = 0x4E02 }

abbrev cells_1 : List Action
cells_1 = Write 0x4E03 0x5A ∷ Write 0x4E02 0xC3 ∷ Write 0x4D01 0x7B ∷ Write 0x4D00 0x96 ∷ []

-- the lines of the table
abbrev pub loads_of_each_pair_lines : List VectorLine
loads_of_each_pair_lines =
    -- LD DE,0A55AH | 11 5A A5 | | 10 | DE=A55A
    vector_line (0x11 ∷ 0x5A ∷ 0xA5 ∷ []) usual_1 cells_1 None (Took 10 ∷ [])
    (λ regs. record regs { r = 0x01; pc = 0x0003; d = 0xA5; e = 0x5A }) [] ∷
    -- LD HL,0A55AH | 21 5A A5 | | 10 | HL=A55A
    vector_line (0x21 ∷ 0x5A ∷ 0xA5 ∷ []) usual_1 cells_1 None (Took 10 ∷ [])
    (λ regs. record regs { r = 0x01; pc = 0x0003; h = 0xA5; l = 0x5A }) [] ∷
    -- PUSH DE | D5 | | 11 | SP=4E00 (4E01)=3D (4E00)=4E
    vector_line (0xD5 ∷ []) usual_1 cells_1 None (Took 11 ∷ [])
    (λ regs. record regs { r = 0x01; pc = 0x0001; sp = 0x4E00 }) (Write 0x4E01 0x3D ∷ Write 0x4E00 0x4E ∷ []) ∷
    -- PUSH HL | E5 | | 11 | SP=4E00 (4E01)=42 (4E00)=5F
    vector_line (0xE5 ∷ []) usual_1 cells_1 None (Took 11 ∷ [])
    (λ regs. record regs { r = 0x01; pc = 0x0001; sp = 0x4E00 }) (Write 0x4E01 0x42 ∷ Write 0x4E00 0x5F ∷ []) ∷
    -- POP BC | C1 | | 10 | BC=5AC3 SP=4E04
    vector_line (0xC1 ∷ []) usual_1 cells_1 None (Took 10 ∷ [])
    (λ regs. record regs { r = 0x01; pc = 0x0001; b = 0x5A; c = 0xC3; sp = 0x4E04 }) [] ∷
    -- POP DE | D1 | | 10 | DE=5AC3 SP=4E04
    vector_line (0xD1 ∷ []) usual_1 cells_1 None (Took 10 ∷ [])
    (λ regs. record regs { r = 0x01; pc = 0x0001; d = 0x5A; e = 0xC3; sp = 0x4E04 }) [] ∷
    -- LD BC,(4D00H) | ED 4B 00 4D | | 20 | BC=7B96
    vector_line (0xED ∷ 0x4B ∷ 0x00 ∷ 0x4D ∷ []) usual_1 cells_1 None (Took 20 ∷ [])
    (λ regs. record regs { r = 0x02; pc = 0x0004; b = 0x7B; c = 0x96 }) [] ∷
    -- LD HL,(4D00H) | ED 6B 00 4D | | 20 | HL=7B96
    vector_line (0xED ∷ 0x6B ∷ 0x00 ∷ 0x4D ∷ []) usual_1 cells_1 None (Took 20 ∷ [])
    (λ regs. record regs { r = 0x02; pc = 0x0004; h = 0x7B; l = 0x96 }) [] ∷
    -- LD (4D00H),DE | ED 53 00 4D | | 20 | (4D00)=4E (4D01)=3D
    vector_line (0xED ∷ 0x53 ∷ 0x00 ∷ 0x4D ∷ []) usual_1 cells_1 None (Took 20 ∷ [])
    (λ regs. record regs { r = 0x02; pc = 0x0004 }) (Write 0x4D00 0x4E ∷ Write 0x4D01 0x3D ∷ []) ∷
    -- LD (4D00H),HL | ED 63 00 4D | | 20 | (4D00)=5F (4D01)=42
    vector_line (0xED ∷ 0x63 ∷ 0x00 ∷ 0x4D ∷ []) usual_1 cells_1 None (Took 20 ∷ [])
    (λ regs. record regs { r = 0x02; pc = 0x0004 }) (Write 0x4D00 0x5F ∷ Write 0x4D01 0x42 ∷ []) ∷
    []
