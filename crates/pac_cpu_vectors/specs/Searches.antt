-- Law: Searches (UM0080, "Exchange, Block Transfer, and Search Group"). Made by tools/make/make-vectors from tools/check/vectors.txt.
use Rattle.std.specs.Prelude.{List, [], ◌∷◌, None}
use Rattle.pac_bus.specs.Action.{Action, Write}
use Rattle.pac_exec.specs.declared.regs.Regs.{Regs}
use Rattle.pac_cpu.specs.Power.{power_on_regs}
use Rattle.pac_cpu_vectors.specs.Vectors.{VectorLine, vector_line, Took}

abbrev usual_1 : Regs
usual_1 = record power_on_regs { d = 0x4E; e = 0x22; h = 0x11; l = 0x11; pc = 0x0100 }

abbrev cells_1 : List Action
cells_1 = Write 0x1111 0x3B ∷ []

abbrev usual_2 : Regs
usual_2 = record power_on_regs { a = 0xF3; pc = 0x0100 }

abbrev cells_2 : List Action
cells_2 = Write 0x1118 0x52 ∷ Write 0x1116 0xF3 ∷ Write 0x1113 0xF3 ∷ Write 0x1111 0x52 ∷ []

-- the lines of the table
abbrev pub searches_lines : List VectorLine
searches_lines =
    -- CPI | ED A1 | A=3B BC=0001 | 16 | F=42 BC=0000 HL=1112
    vector_line (0xED ∷ 0xA1 ∷ []) (record usual_1 { a = 0x3B; b = 0x00; c = 0x01 }) cells_1 None (Took 16 ∷ [])
    (λ regs. record regs { r = 0x02; pc = 0x0102; f = 0x42; b = 0x00; c = 0x00; h = 0x11; l = 0x12 }) [] ∷
    -- CPI | ED A1 | A=3B F=FF BC=0001 | 16 | F=6B BC=0000 HL=1112
    vector_line (0xED ∷ 0xA1 ∷ []) (record usual_1 { a = 0x3B; f = 0xFF; b = 0x00; c = 0x01 }) cells_1 None (Took 16 ∷ [])
    (λ regs. record regs { r = 0x02; pc = 0x0102; f = 0x6B; b = 0x00; c = 0x00; h = 0x11; l = 0x12 }) [] ∷
    -- CPI | ED A1 | A=40 BC=0002 | 16 | F=16 BC=0001 HL=1112
    vector_line (0xED ∷ 0xA1 ∷ []) (record usual_1 { a = 0x40; b = 0x00; c = 0x02 }) cells_1 None (Took 16 ∷ [])
    (λ regs. record regs { r = 0x02; pc = 0x0102; f = 0x16; b = 0x00; c = 0x01; h = 0x11; l = 0x12 }) [] ∷
    -- CPI | ED A1 | A=0B F=01 | 16 | F=87 BC=FFFF HL=1112
    vector_line (0xED ∷ 0xA1 ∷ []) (record usual_1 { a = 0x0B; f = 0x01 }) cells_1 None (Took 16 ∷ [])
    (λ regs. record regs { r = 0x02; pc = 0x0102; f = 0x87; b = 0xFF; c = 0xFF; h = 0x11; l = 0x12 }) [] ∷
    -- CPD | ED A9 | A=3C BC=0007 | 16 | F=06 BC=0006 HL=1110
    vector_line (0xED ∷ 0xA9 ∷ []) (record usual_1 { a = 0x3C; b = 0x00; c = 0x07 }) cells_1 None (Took 16 ∷ [])
    (λ regs. record regs { r = 0x02; pc = 0x0102; f = 0x06; b = 0x00; c = 0x06; h = 0x11; l = 0x10 }) [] ∷
    -- CPIR | ED B1 | A=3B BC=0007 | 16 | F=46 BC=0006 HL=1112
    vector_line (0xED ∷ 0xB1 ∷ []) (record usual_1 { a = 0x3B; b = 0x00; c = 0x07 }) cells_1 None (Took 16 ∷ [])
    (λ regs. record regs { r = 0x02; pc = 0x0102; f = 0x46; b = 0x00; c = 0x06; h = 0x11; l = 0x12 }) [] ∷
    -- CPIR | ED B1 | A=3C BC=0007 | 21 | F=06 BC=0006 HL=1112 PC=0100
    vector_line (0xED ∷ 0xB1 ∷ []) (record usual_1 { a = 0x3C; b = 0x00; c = 0x07 }) cells_1 None (Took 21 ∷ [])
    (λ regs. record regs { r = 0x02; pc = 0x0100; f = 0x06; b = 0x00; c = 0x06; h = 0x11; l = 0x12 }) [] ∷
    -- CPIR | ED B1 | A=3C BC=0001 | 16 | F=02 BC=0000 HL=1112
    vector_line (0xED ∷ 0xB1 ∷ []) (record usual_1 { a = 0x3C; b = 0x00; c = 0x01 }) cells_1 None (Took 16 ∷ [])
    (λ regs. record regs { r = 0x02; pc = 0x0102; f = 0x02; b = 0x00; c = 0x00; h = 0x11; l = 0x12 }) [] ∷
    -- CPIR | ED B1 | A=3C | 21 | F=06 BC=FFFF HL=1112 PC=0100
    vector_line (0xED ∷ 0xB1 ∷ []) (record usual_1 { a = 0x3C }) cells_1 None (Took 21 ∷ [])
    (λ regs. record regs { r = 0x02; pc = 0x0100; f = 0x06; b = 0xFF; c = 0xFF; h = 0x11; l = 0x12 }) [] ∷
    -- CPDR | ED B9 | A=3B BC=0007 | 16 | F=46 BC=0006 HL=1110
    vector_line (0xED ∷ 0xB9 ∷ []) (record usual_1 { a = 0x3B; b = 0x00; c = 0x07 }) cells_1 None (Took 16 ∷ [])
    (λ regs. record regs { r = 0x02; pc = 0x0102; f = 0x46; b = 0x00; c = 0x06; h = 0x11; l = 0x10 }) [] ∷
    -- CPDR | ED B9 | A=3C BC=0007 | 21 | F=06 BC=0006 HL=1110 PC=0100
    vector_line (0xED ∷ 0xB9 ∷ []) (record usual_1 { a = 0x3C; b = 0x00; c = 0x07 }) cells_1 None (Took 21 ∷ [])
    (λ regs. record regs { r = 0x02; pc = 0x0100; f = 0x06; b = 0x00; c = 0x06; h = 0x11; l = 0x10 }) [] ∷
    -- CPDR | ED B9 | A=3C BC=0001 | 16 | F=02 BC=0000 HL=1110
    vector_line (0xED ∷ 0xB9 ∷ []) (record usual_1 { a = 0x3C; b = 0x00; c = 0x01 }) cells_1 None (Took 16 ∷ [])
    (λ regs. record regs { r = 0x02; pc = 0x0102; f = 0x02; b = 0x00; c = 0x00; h = 0x11; l = 0x10 }) [] ∷
    -- CPIR | ED B1 | BC=0007 HL=1111 | 21 | F=86 BC=0006 HL=1112 PC=0100
    vector_line (0xED ∷ 0xB1 ∷ []) (record usual_2 { b = 0x00; c = 0x07; h = 0x11; l = 0x11 }) cells_2 None (Took 21 ∷ [])
    (λ regs. record regs { r = 0x02; pc = 0x0100; f = 0x86; b = 0x00; c = 0x06; h = 0x11; l = 0x12 }) [] ∷
    -- CPIR | ED B1 | F=86 BC=0006 HL=1112 | 21 | BC=0005 HL=1113 PC=0100
    vector_line (0xED ∷ 0xB1 ∷ []) (record usual_2 { f = 0x86; b = 0x00; c = 0x06; h = 0x11; l = 0x12 }) cells_2 None (Took 21 ∷ [])
    (λ regs. record regs { r = 0x02; pc = 0x0100; b = 0x00; c = 0x05; h = 0x11; l = 0x13 }) [] ∷
    -- CPIR | ED B1 | F=86 BC=0005 HL=1113 | 16 | F=46 BC=0004 HL=1114
    vector_line (0xED ∷ 0xB1 ∷ []) (record usual_2 { f = 0x86; b = 0x00; c = 0x05; h = 0x11; l = 0x13 }) cells_2 None (Took 16 ∷ [])
    (λ regs. record regs { r = 0x02; pc = 0x0102; f = 0x46; b = 0x00; c = 0x04; h = 0x11; l = 0x14 }) [] ∷
    -- CPDR | ED B9 | BC=0007 HL=1118 | 21 | F=86 BC=0006 HL=1117 PC=0100
    vector_line (0xED ∷ 0xB9 ∷ []) (record usual_2 { b = 0x00; c = 0x07; h = 0x11; l = 0x18 }) cells_2 None (Took 21 ∷ [])
    (λ regs. record regs { r = 0x02; pc = 0x0100; f = 0x86; b = 0x00; c = 0x06; h = 0x11; l = 0x17 }) [] ∷
    -- CPDR | ED B9 | F=86 BC=0006 HL=1117 | 21 | BC=0005 HL=1116 PC=0100
    vector_line (0xED ∷ 0xB9 ∷ []) (record usual_2 { f = 0x86; b = 0x00; c = 0x06; h = 0x11; l = 0x17 }) cells_2 None (Took 21 ∷ [])
    (λ regs. record regs { r = 0x02; pc = 0x0100; b = 0x00; c = 0x05; h = 0x11; l = 0x16 }) [] ∷
    -- CPDR | ED B9 | F=86 BC=0005 HL=1116 | 16 | F=46 BC=0004 HL=1115
    vector_line (0xED ∷ 0xB9 ∷ []) (record usual_2 { f = 0x86; b = 0x00; c = 0x05; h = 0x11; l = 0x16 }) cells_2 None (Took 16 ∷ [])
    (λ regs. record regs { r = 0x02; pc = 0x0102; f = 0x46; b = 0x00; c = 0x04; h = 0x11; l = 0x15 }) [] ∷
    []
