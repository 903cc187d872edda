-- Law: Words (UM0080, "16-Bit Arithmetic Group"). Made by tools/make/make-vectors from tools/check/vectors.txt.
use Rattle.std.specs.Prelude.{List, [], ◌∷◌, None}
use Rattle.pac_cpu.specs.Power.{power_on_regs}
use Rattle.pac_cpu_vectors.specs.Vectors.{VectorLine, vector_line, Took}

-- the lines of the table
abbrev pub words_lines : List VectorLine
words_lines =
    -- ADD HL,BC | 09 | F=02 BC=0001 HL=0FFF | 11 | F=10 HL=1000
    vector_line (0x09 ∷ []) (record power_on_regs { f = 0x02; b = 0x00; c = 0x01; h = 0x0F; l = 0xFF }) [] None (Took 11 ∷ [])
    (λ regs. record regs { r = 0x01; pc = 0x0001; f = 0x10; h = 0x10; l = 0x00 }) [] ∷
    -- ADD HL,BC | 09 | F=FF BC=0001 HL=FFFF | 11 | F=FD HL=0000
    vector_line (0x09 ∷ []) (record power_on_regs { f = 0xFF; b = 0x00; c = 0x01; h = 0xFF; l = 0xFF }) [] None (Took 11 ∷ [])
    (λ regs. record regs { r = 0x01; pc = 0x0001; f = 0xFD; h = 0x00; l = 0x00 }) [] ∷
    -- ADD HL,BC | 09 | F=C4 BC=8000 HL=8000 | 11 | F=C5 HL=0000
    vector_line (0x09 ∷ []) (record power_on_regs { f = 0xC4; b = 0x80; c = 0x00; h = 0x80; l = 0x00 }) [] None (Took 11 ∷ [])
    (λ regs. record regs { r = 0x01; pc = 0x0001; f = 0xC5; h = 0x00; l = 0x00 }) [] ∷
    -- ADD HL,BC | 09 | F=01 BC=0001 HL=0001 | 11 | F=00 HL=0002
    vector_line (0x09 ∷ []) (record power_on_regs { f = 0x01; b = 0x00; c = 0x01; h = 0x00; l = 0x01 }) [] None (Took 11 ∷ [])
    (λ regs. record regs { r = 0x01; pc = 0x0001; f = 0x00; h = 0x00; l = 0x02 }) [] ∷
    -- ADC HL,BC | ED 4A | F=01 BC=8000 HL=7FFF | 15 | F=51 HL=0000
    vector_line (0xED ∷ 0x4A ∷ []) (record power_on_regs { f = 0x01; b = 0x80; c = 0x00; h = 0x7F; l = 0xFF }) [] None (Took 15 ∷ [])
    (λ regs. record regs { r = 0x02; pc = 0x0002; f = 0x51; h = 0x00; l = 0x00 }) [] ∷
    -- ADC HL,BC | ED 4A | F=FF BC=2222 HL=5437 | 15 | F=28 HL=765A
    vector_line (0xED ∷ 0x4A ∷ []) (record power_on_regs { f = 0xFF; b = 0x22; c = 0x22; h = 0x54; l = 0x37 }) [] None (Took 15 ∷ [])
    (λ regs. record regs { r = 0x02; pc = 0x0002; f = 0x28; h = 0x76; l = 0x5A }) [] ∷
    -- SBC HL,BC | ED 42 | BC=0001 | 15 | F=93 HL=FFFF
    vector_line (0xED ∷ 0x42 ∷ []) (record power_on_regs { b = 0x00; c = 0x01 }) [] None (Took 15 ∷ [])
    (λ regs. record regs { r = 0x02; pc = 0x0002; f = 0x93; h = 0xFF; l = 0xFF }) [] ∷
    -- SBC HL,BC | ED 42 | F=01 BC=7FFF HL=8000 | 15 | F=56 HL=0000
    vector_line (0xED ∷ 0x42 ∷ []) (record power_on_regs { f = 0x01; b = 0x7F; c = 0xFF; h = 0x80; l = 0x00 }) [] None (Took 15 ∷ [])
    (λ regs. record regs { r = 0x02; pc = 0x0002; f = 0x56; h = 0x00; l = 0x00 }) [] ∷
    -- SBC HL,BC | ED 42 | F=01 BC=FFFF | 15 | F=53
    vector_line (0xED ∷ 0x42 ∷ []) (record power_on_regs { f = 0x01; b = 0xFF; c = 0xFF }) [] None (Took 15 ∷ [])
    (λ regs. record regs { r = 0x02; pc = 0x0002; f = 0x53 }) [] ∷
    -- SBC HL,BC | ED 42 | BC=1000 HL=1000 | 15 | F=42 HL=0000
    vector_line (0xED ∷ 0x42 ∷ []) (record power_on_regs { b = 0x10; c = 0x00; h = 0x10; l = 0x00 }) [] None (Took 15 ∷ [])
    (λ regs. record regs { r = 0x02; pc = 0x0002; f = 0x42; h = 0x00; l = 0x00 }) [] ∷
    -- SBC HL,BC | ED 42 | F=FF BC=1111 HL=9999 | 15 | F=AA HL=8887
    vector_line (0xED ∷ 0x42 ∷ []) (record power_on_regs { f = 0xFF; b = 0x11; c = 0x11; h = 0x99; l = 0x99 }) [] None (Took 15 ∷ [])
    (λ regs. record regs { r = 0x02; pc = 0x0002; f = 0xAA; h = 0x88; l = 0x87 }) [] ∷
    -- INC BC | 03 | F=A5 | 6 | BC=0001
    vector_line (0x03 ∷ []) (record power_on_regs { f = 0xA5 }) [] None (Took 6 ∷ [])
    (λ regs. record regs { r = 0x01; pc = 0x0001; b = 0x00; c = 0x01 }) [] ∷
    -- INC BC | 03 | F=A5 BC=00FF | 6 | BC=0100
    vector_line (0x03 ∷ []) (record power_on_regs { f = 0xA5; b = 0x00; c = 0xFF }) [] None (Took 6 ∷ [])
    (λ regs. record regs { r = 0x01; pc = 0x0001; b = 0x01; c = 0x00 }) [] ∷
    -- INC BC | 03 | F=A5 BC=0FFF | 6 | BC=1000
    vector_line (0x03 ∷ []) (record power_on_regs { f = 0xA5; b = 0x0F; c = 0xFF }) [] None (Took 6 ∷ [])
    (λ regs. record regs { r = 0x01; pc = 0x0001; b = 0x10; c = 0x00 }) [] ∷
    -- INC BC | 03 | F=A5 BC=FFFF | 6 | BC=0000
    vector_line (0x03 ∷ []) (record power_on_regs { f = 0xA5; b = 0xFF; c = 0xFF }) [] None (Took 6 ∷ [])
    (λ regs. record regs { r = 0x01; pc = 0x0001; b = 0x00; c = 0x00 }) [] ∷
    -- DEC BC | 0B | F=A5 BC=0001 | 6 | BC=0000
    vector_line (0x0B ∷ []) (record power_on_regs { f = 0xA5; b = 0x00; c = 0x01 }) [] None (Took 6 ∷ [])
    (λ regs. record regs { r = 0x01; pc = 0x0001; b = 0x00; c = 0x00 }) [] ∷
    -- DEC BC | 0B | F=A5 BC=0100 | 6 | BC=00FF
    vector_line (0x0B ∷ []) (record power_on_regs { f = 0xA5; b = 0x01; c = 0x00 }) [] None (Took 6 ∷ [])
    (λ regs. record regs { r = 0x01; pc = 0x0001; b = 0x00; c = 0xFF }) [] ∷
    -- DEC BC | 0B | F=A5 BC=1000 | 6 | BC=0FFF
    vector_line (0x0B ∷ []) (record power_on_regs { f = 0xA5; b = 0x10; c = 0x00 }) [] None (Took 6 ∷ [])
    (λ regs. record regs { r = 0x01; pc = 0x0001; b = 0x0F; c = 0xFF }) [] ∷
    -- DEC BC | 0B | F=A5 | 6 | BC=FFFF
    vector_line (0x0B ∷ []) (record power_on_regs { f = 0xA5 }) [] None (Took 6 ∷ [])
    (λ regs. record regs { r = 0x01; pc = 0x0001; b = 0xFF; c = 0xFF }) [] ∷
    []
