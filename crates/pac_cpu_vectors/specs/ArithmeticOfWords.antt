-- Law: Arithmetic of words (UM0080, "16-Bit Arithmetic Group"). Made by tools/make/make-vectors from tools/check/vectors.txt.
use Rattle.std.specs.Prelude.{List, [], ◌∷◌, None}
use Rattle.pac_exec.specs.declared.regs.Regs.{Regs}
use Rattle.pac_cpu.specs.Power.{power_on_regs}
use Rattle.pac_cpu_vectors.specs.Vectors.{VectorLine, vector_line, Took}

abbrev usual_2 : Regs
usual_2 = record power_on_regs { f = 0x40; b = 0x55; c = 0x55; h = 0x40; l = 0x00; ix = 0x0333; iy = 0x8001; sp = 0xFFFF }

abbrev usual_3 : Regs
usual_3 = record power_on_regs { f = 0xFF; b = 0xFF; c = 0xFF; h = 0x00; l = 0xFF; ix = 0xFFFF }

-- the lines of the table
abbrev pub arithmetic_of_words_lines : List VectorLine
arithmetic_of_words_lines =
    -- ADD HL,BC | 09 | BC=1111 HL=4242 | 11 | HL=5353
    vector_line (0x09 ∷ []) (record power_on_regs { b = 0x11; c = 0x11; h = 0x42; l = 0x42 }) [] None (Took 11 ∷ [])
    (λ regs. record regs { r = 0x01; pc = 0x0001; h = 0x53; l = 0x53 }) [] ∷
    -- ADD HL,BC | 09 | F=FF BC=0001 HL=0FFF | 11 | F=FC HL=1000
    vector_line (0x09 ∷ []) (record power_on_regs { f = 0xFF; b = 0x00; c = 0x01; h = 0x0F; l = 0xFF }) [] None (Took 11 ∷ [])
    (λ regs. record regs { r = 0x01; pc = 0x0001; f = 0xFC; h = 0x10; l = 0x00 }) [] ∷
    -- ADD HL,BC | 09 | BC=0001 HL=FFFF | 11 | F=11 HL=0000
    vector_line (0x09 ∷ []) (record power_on_regs { b = 0x00; c = 0x01; h = 0xFF; l = 0xFF }) [] None (Took 11 ∷ [])
    (λ regs. record regs { r = 0x01; pc = 0x0001; f = 0x11; h = 0x00; l = 0x00 }) [] ∷
    -- ADD HL,BC | 09 | F=42 BC=8000 HL=8000 | 11 | F=41 HL=0000
    vector_line (0x09 ∷ []) (record power_on_regs { f = 0x42; b = 0x80; c = 0x00; h = 0x80; l = 0x00 }) [] None (Took 11 ∷ [])
    (λ regs. record regs { r = 0x01; pc = 0x0001; f = 0x41; h = 0x00; l = 0x00 }) [] ∷
    -- ADC HL,BC | ED 4A | F=01 BC=2222 HL=5437 | 15 | F=00 HL=765A
    vector_line (0xED ∷ 0x4A ∷ []) (record power_on_regs { f = 0x01; b = 0x22; c = 0x22; h = 0x54; l = 0x37 }) [] None (Took 15 ∷ [])
    (λ regs. record regs { r = 0x02; pc = 0x0002; f = 0x00; h = 0x76; l = 0x5A }) [] ∷
    -- ADC HL,BC | ED 4A | F=01 HL=7FFF | 15 | F=94 HL=8000
    vector_line (0xED ∷ 0x4A ∷ []) (record power_on_regs { f = 0x01; h = 0x7F; l = 0xFF }) [] None (Took 15 ∷ [])
    (λ regs. record regs { r = 0x02; pc = 0x0002; f = 0x94; h = 0x80; l = 0x00 }) [] ∷
    -- ADC HL,BC | ED 4A | F=01 HL=FFFF | 15 | F=51 HL=0000
    vector_line (0xED ∷ 0x4A ∷ []) (record power_on_regs { f = 0x01; h = 0xFF; l = 0xFF }) [] None (Took 15 ∷ [])
    (λ regs. record regs { r = 0x02; pc = 0x0002; f = 0x51; h = 0x00; l = 0x00 }) [] ∷
    -- ADC HL,BC | ED 4A | BC=8000 HL=8000 | 15 | F=45 HL=0000
    vector_line (0xED ∷ 0x4A ∷ []) (record power_on_regs { b = 0x80; c = 0x00; h = 0x80; l = 0x00 }) [] None (Took 15 ∷ [])
    (λ regs. record regs { r = 0x02; pc = 0x0002; f = 0x45; h = 0x00; l = 0x00 }) [] ∷
    -- ADC HL,BC | ED 4A | F=2A BC=8000 HL=8000 | 15 | F=6D HL=0000
    vector_line (0xED ∷ 0x4A ∷ []) (record power_on_regs { f = 0x2A; b = 0x80; c = 0x00; h = 0x80; l = 0x00 }) [] None (Took 15 ∷ [])
    (λ regs. record regs { r = 0x02; pc = 0x0002; f = 0x6D; h = 0x00; l = 0x00 }) [] ∷
    -- SBC HL,BC | ED 42 | F=01 BC=1111 HL=9999 | 15 | F=82 HL=8887
    vector_line (0xED ∷ 0x42 ∷ []) (record power_on_regs { f = 0x01; b = 0x11; c = 0x11; h = 0x99; l = 0x99 }) [] None (Took 15 ∷ [])
    (λ regs. record regs { r = 0x02; pc = 0x0002; f = 0x82; h = 0x88; l = 0x87 }) [] ∷
    -- SBC HL,BC | ED 42 | BC=0001 HL=8000 | 15 | F=16 HL=7FFF
    vector_line (0xED ∷ 0x42 ∷ []) (record power_on_regs { b = 0x00; c = 0x01; h = 0x80; l = 0x00 }) [] None (Took 15 ∷ [])
    (λ regs. record regs { r = 0x02; pc = 0x0002; f = 0x16; h = 0x7F; l = 0xFF }) [] ∷
    -- SBC HL,BC | ED 42 | BC=8000 | 15 | F=87 HL=8000
    vector_line (0xED ∷ 0x42 ∷ []) (record power_on_regs { b = 0x80; c = 0x00 }) [] None (Took 15 ∷ [])
    (λ regs. record regs { r = 0x02; pc = 0x0002; f = 0x87; h = 0x80; l = 0x00 }) [] ∷
    -- SBC HL,BC | ED 42 | BC=1234 HL=1234 | 15 | F=42 HL=0000
    vector_line (0xED ∷ 0x42 ∷ []) (record power_on_regs { b = 0x12; c = 0x34; h = 0x12; l = 0x34 }) [] None (Took 15 ∷ [])
    (λ regs. record regs { r = 0x02; pc = 0x0002; f = 0x42; h = 0x00; l = 0x00 }) [] ∷
    -- SBC HL,BC | ED 42 | F=01 BC=1234 HL=1234 | 15 | F=93 HL=FFFF
    vector_line (0xED ∷ 0x42 ∷ []) (record power_on_regs { f = 0x01; b = 0x12; c = 0x34; h = 0x12; l = 0x34 }) [] None (Took 15 ∷ [])
    (λ regs. record regs { r = 0x02; pc = 0x0002; f = 0x93; h = 0xFF; l = 0xFF }) [] ∷
    -- ADD IX,BC | DD 09 | | 15 | IX=5888
    vector_line (0xDD ∷ 0x09 ∷ []) usual_2 [] None (Took 15 ∷ []) (λ regs. record regs { r = 0x02; pc = 0x0002; ix = 0x5888 }) [] ∷
    -- ADD IX,IX | DD 29 | | 15 | IX=0666
    vector_line (0xDD ∷ 0x29 ∷ []) usual_2 [] None (Took 15 ∷ []) (λ regs. record regs { r = 0x02; pc = 0x0002; ix = 0x0666 }) [] ∷
    -- ADD IY,IY | FD 29 | | 15 | F=41 IY=0002
    vector_line (0xFD ∷ 0x29 ∷ []) usual_2 [] None (Took 15 ∷ [])
    (λ regs. record regs { r = 0x02; pc = 0x0002; f = 0x41; iy = 0x0002 }) [] ∷
    -- ADD IY,SP | FD 39 | | 15 | F=51 IY=8000
    vector_line (0xFD ∷ 0x39 ∷ []) usual_2 [] None (Took 15 ∷ [])
    (λ regs. record regs { r = 0x02; pc = 0x0002; f = 0x51; iy = 0x8000 }) [] ∷
    -- INC BC | 03 | | 6 | BC=0000
    vector_line (0x03 ∷ []) usual_3 [] None (Took 6 ∷ []) (λ regs. record regs { r = 0x01; pc = 0x0001; b = 0x00; c = 0x00 }) [] ∷
    -- INC HL | 23 | | 6 | HL=0100
    vector_line (0x23 ∷ []) usual_3 [] None (Took 6 ∷ []) (λ regs. record regs { r = 0x01; pc = 0x0001; h = 0x01; l = 0x00 }) [] ∷
    -- INC IX | DD 23 | | 10 | IX=0000
    vector_line (0xDD ∷ 0x23 ∷ []) usual_3 [] None (Took 10 ∷ []) (λ regs. record regs { r = 0x02; pc = 0x0002; ix = 0x0000 }) [] ∷
    -- INC IY | FD 23 | | 10 | IY=0001
    vector_line (0xFD ∷ 0x23 ∷ []) usual_3 [] None (Took 10 ∷ []) (λ regs. record regs { r = 0x02; pc = 0x0002; iy = 0x0001 }) [] ∷
    -- DEC DE | 1B | | 6 | DE=FFFF
    vector_line (0x1B ∷ []) usual_3 [] None (Took 6 ∷ []) (λ regs. record regs { r = 0x01; pc = 0x0001; d = 0xFF; e = 0xFF }) [] ∷
    -- DEC SP | 3B | | 6 | SP=FFFF
    vector_line (0x3B ∷ []) usual_3 [] None (Took 6 ∷ []) (λ regs. record regs { r = 0x01; pc = 0x0001; sp = 0xFFFF }) [] ∷
    -- DEC IX | DD 2B | | 10 | IX=FFFE
    vector_line (0xDD ∷ 0x2B ∷ []) usual_3 [] None (Took 10 ∷ []) (λ regs. record regs { r = 0x02; pc = 0x0002; ix = 0xFFFE }) [] ∷
    -- DEC IY | FD 2B | | 10 | IY=FFFF
    vector_line (0xFD ∷ 0x2B ∷ []) usual_3 [] None (Took 10 ∷ []) (λ regs. record regs { r = 0x02; pc = 0x0002; iy = 0xFFFF }) [] ∷
    []
