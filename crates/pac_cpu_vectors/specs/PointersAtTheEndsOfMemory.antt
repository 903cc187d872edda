-- Law: Pointers at the ends of memory. Made by tools/make/make-vectors from tools/check/vectors.txt.
use Rattle.std.specs.Prelude.{List, [], ◌∷◌, None}
use Rattle.pac_bus.specs.Action.{Action, Write, Output}
use Rattle.pac_exec.specs.declared.regs.Regs.{Regs}
use Rattle.pac_cpu.specs.Power.{power_on_regs}
use Rattle.pac_cpu_vectors.specs.Vectors.{VectorLine, vector_line, Took}

abbrev usual_1 : Regs
usual_1 = record power_on_regs { b = 0x02; c = 0x02; d = 0x4E; e = 0x22; pc = 0x0100 }

abbrev cells_1 : List Action
cells_1 = Write 0x0000 0x12 ∷ []

-- the lines of the table
abbrev pub pointers_at_the_ends_of_memory_lines : List VectorLine
pointers_at_the_ends_of_memory_lines =
    -- LDI | ED A0 | HL=FFFF (FFFF)=FF | 16 | F=04 BC=0201 DE=4E23 HL=0000 (4E22)=FF
    vector_line (0xED ∷ 0xA0 ∷ []) (record usual_1 { h = 0xFF; l = 0xFF }) (Write 0xFFFF 0xFF ∷ cells_1) None (Took 16 ∷ [])
    (λ regs. record regs { r = 0x02; pc = 0x0102; f = 0x04; b = 0x02; c = 0x01; d = 0x4E; e = 0x23; h = 0x00; l = 0x00 })
    (Write 0x4E22 0xFF ∷ []) ∷
    -- LDD | ED A8 | | 16 | F=04 BC=0201 DE=4E21 HL=FFFF (4E22)=12
    vector_line (0xED ∷ 0xA8 ∷ []) usual_1 cells_1 None (Took 16 ∷ [])
    (λ regs. record regs { r = 0x02; pc = 0x0102; f = 0x04; b = 0x02; c = 0x01; d = 0x4E; e = 0x21; h = 0xFF; l = 0xFF })
    (Write 0x4E22 0x12 ∷ []) ∷
    -- CPI | ED A1 | A=FF HL=FFFF (FFFF)=FF | 16 | F=46 BC=0201 HL=0000
    vector_line (0xED ∷ 0xA1 ∷ []) (record usual_1 { a = 0xFF; h = 0xFF; l = 0xFF }) (Write 0xFFFF 0xFF ∷ cells_1) None (Took 16 ∷ [])
    (λ regs. record regs { r = 0x02; pc = 0x0102; f = 0x46; b = 0x02; c = 0x01; h = 0x00; l = 0x00 }) [] ∷
    -- CPD | ED A9 | A=12 | 16 | F=46 BC=0201 HL=FFFF
    vector_line (0xED ∷ 0xA9 ∷ []) (record usual_1 { a = 0x12 }) cells_1 None (Took 16 ∷ [])
    (λ regs. record regs { r = 0x02; pc = 0x0102; f = 0x46; b = 0x02; c = 0x01; h = 0xFF; l = 0xFF }) [] ∷
    -- INI | ED A2 | HL=FFFF BLANKS=05 | 16 | F=02 BC=0102 HL=0000 (FFFF)=FF BLANKS=00
    vector_line (0xED ∷ 0xA2 ∷ []) (record usual_1 { h = 0xFF; l = 0xFF }) cells_1 None (Took 16 ∷ [])
    (λ regs. record regs { r = 0x02; pc = 0x0102; f = 0x02; b = 0x01; c = 0x02; h = 0x00; l = 0x00 }) (Write 0xFFFF 0xFF ∷ []) ∷
    -- IND | ED AA | | 16 | F=02 BC=0102 HL=FFFF (0000)=FF
    vector_line (0xED ∷ 0xAA ∷ []) usual_1 cells_1 None (Took 16 ∷ [])
    (λ regs. record regs { r = 0x02; pc = 0x0102; f = 0x02; b = 0x01; c = 0x02; h = 0xFF; l = 0xFF }) (Write 0x0000 0xFF ∷ []) ∷
    -- OUTI | ED A3 | C=00 HL=FFFF (FFFF)=FF | 16 | F=02 BC=0100 HL=0000 [00]=FF
    vector_line (0xED ∷ 0xA3 ∷ []) (record usual_1 { c = 0x00; h = 0xFF; l = 0xFF }) (Write 0xFFFF 0xFF ∷ cells_1) None (Took 16 ∷ [])
    (λ regs. record regs { r = 0x02; pc = 0x0102; f = 0x02; b = 0x01; c = 0x00; h = 0x00; l = 0x00 }) (Output 0x00 0xFF ∷ []) ∷
    -- OUTD | ED AB | C=00 | 16 | F=02 BC=0100 HL=FFFF [00]=12
    vector_line (0xED ∷ 0xAB ∷ []) (record usual_1 { c = 0x00 }) cells_1 None (Took 16 ∷ [])
    (λ regs. record regs { r = 0x02; pc = 0x0102; f = 0x02; b = 0x01; c = 0x00; h = 0xFF; l = 0xFF }) (Output 0x00 0x12 ∷ []) ∷
    []
