-- Law: Displacements, over the ends of memory too (UM0080, "Indexed Addressing"). Made by tools/make/make-vectors from
-- tools/check/vectors.txt.
use Rattle.std.specs.Prelude.{List, [], ◌∷◌, None}
use Rattle.pac_bus.specs.Action.{Write}
use Rattle.pac_exec.specs.declared.regs.Regs.{Regs}
use Rattle.pac_cpu.specs.Power.{power_on_regs}
use Rattle.pac_cpu_vectors.specs.Vectors.{VectorLine, vector_line, Took}

abbrev usual_1 : Regs
usual_1 = record power_on_regs { pc = 0x0100 }

-- the lines of the table
abbrev pub displacements_lines : List VectorLine
displacements_lines =
    -- LD A,(IX+7FH) | DD 7E 7F | IX=4000 (407F)=5A | 19 | A=5A
    vector_line (0xDD ∷ 0x7E ∷ 0x7F ∷ []) (record usual_1 { ix = 0x4000 }) (Write 0x407F 0x5A ∷ []) None (Took 19 ∷ [])
    (λ regs. record regs { r = 0x02; pc = 0x0103; a = 0x5A }) [] ∷
    -- LD A,(IX-80H) | DD 7E 80 | IX=4000 (3F80)=5A | 19 | A=5A
    vector_line (0xDD ∷ 0x7E ∷ 0x80 ∷ []) (record usual_1 { ix = 0x4000 }) (Write 0x3F80 0x5A ∷ []) None (Took 19 ∷ [])
    (λ regs. record regs { r = 0x02; pc = 0x0103; a = 0x5A }) [] ∷
    -- LD A,(IX-1) | DD 7E FF | (FFFF)=FF | 19 | A=FF
    vector_line (0xDD ∷ 0x7E ∷ 0xFF ∷ []) usual_1 (Write 0xFFFF 0xFF ∷ []) None (Took 19 ∷ [])
    (λ regs. record regs { r = 0x02; pc = 0x0103; a = 0xFF }) [] ∷
    -- LD A,(IX+1) | DD 7E 01 | IX=FFFF (0000)=5A | 19 | A=5A
    vector_line (0xDD ∷ 0x7E ∷ 0x01 ∷ []) (record usual_1 { ix = 0xFFFF }) (Write 0x0000 0x5A ∷ []) None (Took 19 ∷ [])
    (λ regs. record regs { r = 0x02; pc = 0x0103; a = 0x5A }) [] ∷
    []
