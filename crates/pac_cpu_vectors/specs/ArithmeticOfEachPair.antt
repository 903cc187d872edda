-- Law: Arithmetic of each pair (UM0080, "16-Bit Arithmetic Group"). Made by tools/make/make-vectors from tools/check/vectors.txt.
use Rattle.std.specs.Prelude.{List, [], ◌∷◌, None}
use Rattle.pac_exec.specs.declared.regs.Regs.{Regs}
use Rattle.pac_cpu.specs.Power.{power_on_regs}
use Rattle.pac_cpu_vectors.specs.Vectors.{VectorLine, vector_line, Took}

abbrev usual_1 : Regs
usual_1 = record power_on_regs { d = 0x12; e = 0x34; h = 0x7F; l = 0xF0; ix = 0x8F00; iy = 0x0FFF; sp = 0x8001; b = 0x71; c = 0x02 }

abbrev usual_2 : Regs
usual_2 = record power_on_regs { f = 0xFF; d = 0x12; e = 0xFF; h = 0x80; l = 0x00; sp = 0xFFFF }

-- the lines of the table
abbrev pub arithmetic_of_each_pair_lines : List VectorLine
arithmetic_of_each_pair_lines =
    -- ADD HL,DE | 19 | F=28 | 11 | HL=9224 F=38
    vector_line (0x19 ∷ []) (record usual_1 { f = 0x28 }) [] None (Took 11 ∷ [])
    (λ regs. record regs { r = 0x01; pc = 0x0001; h = 0x92; l = 0x24; f = 0x38 }) [] ∷
    -- ADD HL,HL | 29 | F=29 | 11 | HL=FFE0 F=38
    vector_line (0x29 ∷ []) (record usual_1 { f = 0x29 }) [] None (Took 11 ∷ [])
    (λ regs. record regs { r = 0x01; pc = 0x0001; h = 0xFF; l = 0xE0; f = 0x38 }) [] ∷
    -- ADD HL,SP | 39 | F=FF | 11 | HL=FFF1 F=EC
    vector_line (0x39 ∷ []) (record usual_1 { f = 0xFF }) [] None (Took 11 ∷ [])
    (λ regs. record regs { r = 0x01; pc = 0x0001; h = 0xFF; l = 0xF1; f = 0xEC }) [] ∷
    -- ADD IX,DE | DD 19 | F=D6 | 15 | IX=A134 F=D4
    vector_line (0xDD ∷ 0x19 ∷ []) (record usual_1 { f = 0xD6 }) [] None (Took 15 ∷ [])
    (λ regs. record regs { r = 0x02; pc = 0x0002; ix = 0xA134; f = 0xD4 }) [] ∷
    -- ADD IX,SP | DD 39 | | 15 | IX=0F01 F=01
    vector_line (0xDD ∷ 0x39 ∷ []) usual_1 [] None (Took 15 ∷ [])
    (λ regs. record regs { r = 0x02; pc = 0x0002; ix = 0x0F01; f = 0x01 }) [] ∷
    -- ADD IY,BC | FD 09 | F=01 | 15 | IY=8101 F=10
    vector_line (0xFD ∷ 0x09 ∷ []) (record usual_1 { f = 0x01 }) [] None (Took 15 ∷ [])
    (λ regs. record regs { r = 0x02; pc = 0x0002; iy = 0x8101; f = 0x10 }) [] ∷
    -- ADD IY,DE | FD 19 | F=28 | 15 | IY=2233 F=38
    vector_line (0xFD ∷ 0x19 ∷ []) (record usual_1 { f = 0x28 }) [] None (Took 15 ∷ [])
    (λ regs. record regs { r = 0x02; pc = 0x0002; iy = 0x2233; f = 0x38 }) [] ∷
    -- ADC HL,DE | ED 5A | F=29 | 15 | HL=9225 F=BC
    vector_line (0xED ∷ 0x5A ∷ []) (record usual_1 { f = 0x29 }) [] None (Took 15 ∷ [])
    (λ regs. record regs { r = 0x02; pc = 0x0002; h = 0x92; l = 0x25; f = 0xBC }) [] ∷
    -- ADC HL,HL | ED 6A | F=FF | 15 | HL=FFE1 F=BC
    vector_line (0xED ∷ 0x6A ∷ []) (record usual_1 { f = 0xFF }) [] None (Took 15 ∷ [])
    (λ regs. record regs { r = 0x02; pc = 0x0002; h = 0xFF; l = 0xE1; f = 0xBC }) [] ∷
    -- ADC HL,SP | ED 7A | F=D6 | 15 | HL=FFF1 F=80
    vector_line (0xED ∷ 0x7A ∷ []) (record usual_1 { f = 0xD6 }) [] None (Took 15 ∷ [])
    (λ regs. record regs { r = 0x02; pc = 0x0002; h = 0xFF; l = 0xF1; f = 0x80 }) [] ∷
    -- SBC HL,DE | ED 52 | | 15 | HL=6DBC F=02
    vector_line (0xED ∷ 0x52 ∷ []) usual_1 [] None (Took 15 ∷ [])
    (λ regs. record regs { r = 0x02; pc = 0x0002; h = 0x6D; l = 0xBC; f = 0x02 }) [] ∷
    -- SBC HL,HL | ED 62 | F=01 | 15 | HL=FFFF F=93
    vector_line (0xED ∷ 0x62 ∷ []) (record usual_1 { f = 0x01 }) [] None (Took 15 ∷ [])
    (λ regs. record regs { r = 0x02; pc = 0x0002; h = 0xFF; l = 0xFF; f = 0x93 }) [] ∷
    -- SBC HL,SP | ED 72 | F=28 | 15 | HL=FFEF F=AF
    vector_line (0xED ∷ 0x72 ∷ []) (record usual_1 { f = 0x28 }) [] None (Took 15 ∷ [])
    (λ regs. record regs { r = 0x02; pc = 0x0002; h = 0xFF; l = 0xEF; f = 0xAF }) [] ∷
    -- INC DE | 13 | | 6 | DE=1300
    vector_line (0x13 ∷ []) usual_2 [] None (Took 6 ∷ []) (λ regs. record regs { r = 0x01; pc = 0x0001; d = 0x13; e = 0x00 }) [] ∷
    -- DEC HL | 2B | | 6 | HL=7FFF
    vector_line (0x2B ∷ []) usual_2 [] None (Took 6 ∷ []) (λ regs. record regs { r = 0x01; pc = 0x0001; h = 0x7F; l = 0xFF }) [] ∷
    -- INC SP | 33 | | 6 | SP=0000
    vector_line (0x33 ∷ []) usual_2 [] None (Took 6 ∷ []) (λ regs. record regs { r = 0x01; pc = 0x0001; sp = 0x0000 }) [] ∷
    []
