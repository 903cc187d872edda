-- Law: A and a byte (UM0080, "8-Bit Arithmetic Group"). Made by tools/make/make-vectors from tools/check/vectors.txt.
use Rattle.std.specs.Prelude.{List, [], ◌∷◌, None}
use Rattle.pac_cpu.specs.Power.{power_on_regs}
use Rattle.pac_cpu_vectors.specs.Vectors.{VectorLine, vector_line, Took}

-- the lines of the table
abbrev pub a_and_a_byte_lines : List VectorLine
a_and_a_byte_lines =
    -- ADD A,00H | C6 00 | | 7 | F=40
    vector_line (0xC6 ∷ 0x00 ∷ []) power_on_regs [] None (Took 7 ∷ []) (λ regs. record regs { r = 0x01; pc = 0x0002; f = 0x40 }) [] ∷
    -- ADD A,01H | C6 01 | A=0F | 7 | A=10 F=10
    vector_line (0xC6 ∷ 0x01 ∷ []) (record power_on_regs { a = 0x0F }) [] None (Took 7 ∷ [])
    (λ regs. record regs { r = 0x01; pc = 0x0002; a = 0x10; f = 0x10 }) [] ∷
    -- ADD A,01H | C6 01 | A=7F | 7 | A=80 F=94
    vector_line (0xC6 ∷ 0x01 ∷ []) (record power_on_regs { a = 0x7F }) [] None (Took 7 ∷ [])
    (λ regs. record regs { r = 0x01; pc = 0x0002; a = 0x80; f = 0x94 }) [] ∷
    -- ADD A,01H | C6 01 | A=FF | 7 | A=00 F=51
    vector_line (0xC6 ∷ 0x01 ∷ []) (record power_on_regs { a = 0xFF }) [] None (Took 7 ∷ [])
    (λ regs. record regs { r = 0x01; pc = 0x0002; a = 0x00; f = 0x51 }) [] ∷
    -- ADD A,80H | C6 80 | A=80 | 7 | A=00 F=45
    vector_line (0xC6 ∷ 0x80 ∷ []) (record power_on_regs { a = 0x80 }) [] None (Took 7 ∷ [])
    (λ regs. record regs { r = 0x01; pc = 0x0002; a = 0x00; f = 0x45 }) [] ∷
    -- ADD A,27H | C6 27 | A=15 F=01 | 7 | A=3C F=00
    vector_line (0xC6 ∷ 0x27 ∷ []) (record power_on_regs { a = 0x15; f = 0x01 }) [] None (Took 7 ∷ [])
    (λ regs. record regs { r = 0x01; pc = 0x0002; a = 0x3C; f = 0x00 }) [] ∷
    -- ADD A,27H | C6 27 | A=15 F=FF | 7 | A=3C F=28
    vector_line (0xC6 ∷ 0x27 ∷ []) (record power_on_regs { a = 0x15; f = 0xFF }) [] None (Took 7 ∷ [])
    (λ regs. record regs { r = 0x01; pc = 0x0002; a = 0x3C; f = 0x28 }) [] ∷
    -- ADC A,00H | CE 00 | A=7F F=01 | 7 | A=80 F=94
    vector_line (0xCE ∷ 0x00 ∷ []) (record power_on_regs { a = 0x7F; f = 0x01 }) [] None (Took 7 ∷ [])
    (λ regs. record regs { r = 0x01; pc = 0x0002; a = 0x80; f = 0x94 }) [] ∷
    -- ADC A,00H | CE 00 | A=7F | 7 |
    vector_line (0xCE ∷ 0x00 ∷ []) (record power_on_regs { a = 0x7F }) [] None (Took 7 ∷ [])
    (λ regs. record regs { r = 0x01; pc = 0x0002 }) [] ∷
    -- ADC A,00H | CE 00 | A=FF F=01 | 7 | A=00 F=51
    vector_line (0xCE ∷ 0x00 ∷ []) (record power_on_regs { a = 0xFF; f = 0x01 }) [] None (Took 7 ∷ [])
    (λ regs. record regs { r = 0x01; pc = 0x0002; a = 0x00; f = 0x51 }) [] ∷
    -- ADC A,7FH | CE 7F | A=80 F=01 | 7 | A=00 F=51
    vector_line (0xCE ∷ 0x7F ∷ []) (record power_on_regs { a = 0x80; f = 0x01 }) [] None (Took 7 ∷ [])
    (λ regs. record regs { r = 0x01; pc = 0x0002; a = 0x00; f = 0x51 }) [] ∷
    -- ADC A,0FFH | CE FF | A=FF F=01 | 7 | F=91
    vector_line (0xCE ∷ 0xFF ∷ []) (record power_on_regs { a = 0xFF; f = 0x01 }) [] None (Took 7 ∷ [])
    (λ regs. record regs { r = 0x01; pc = 0x0002; f = 0x91 }) [] ∷
    -- SUB 05H | D6 05 | A=05 | 7 | A=00 F=42
    vector_line (0xD6 ∷ 0x05 ∷ []) (record power_on_regs { a = 0x05 }) [] None (Took 7 ∷ [])
    (λ regs. record regs { r = 0x01; pc = 0x0002; a = 0x00; f = 0x42 }) [] ∷
    -- SUB 01H | D6 01 | A=80 F=01 | 7 | A=7F F=16
    vector_line (0xD6 ∷ 0x01 ∷ []) (record power_on_regs { a = 0x80; f = 0x01 }) [] None (Took 7 ∷ [])
    (λ regs. record regs { r = 0x01; pc = 0x0002; a = 0x7F; f = 0x16 }) [] ∷
    -- SUB 01H | D6 01 | | 7 | A=FF F=93
    vector_line (0xD6 ∷ 0x01 ∷ []) power_on_regs [] None (Took 7 ∷ [])
    (λ regs. record regs { r = 0x01; pc = 0x0002; a = 0xFF; f = 0x93 }) [] ∷
    -- SUB 80H | D6 80 | A=7F | 7 | A=FF F=87
    vector_line (0xD6 ∷ 0x80 ∷ []) (record power_on_regs { a = 0x7F }) [] None (Took 7 ∷ [])
    (λ regs. record regs { r = 0x01; pc = 0x0002; a = 0xFF; f = 0x87 }) [] ∷
    -- SBC A,0FFH | DE FF | F=01 | 7 | F=53
    vector_line (0xDE ∷ 0xFF ∷ []) (record power_on_regs { f = 0x01 }) [] None (Took 7 ∷ [])
    (λ regs. record regs { r = 0x01; pc = 0x0002; f = 0x53 }) [] ∷
    -- SBC A,00H | DE 00 | A=80 F=01 | 7 | A=7F F=16
    vector_line (0xDE ∷ 0x00 ∷ []) (record power_on_regs { a = 0x80; f = 0x01 }) [] None (Took 7 ∷ [])
    (λ regs. record regs { r = 0x01; pc = 0x0002; a = 0x7F; f = 0x16 }) [] ∷
    -- SBC A,7FH | DE 7F | A=80 F=01 | 7 | A=00 F=56
    vector_line (0xDE ∷ 0x7F ∷ []) (record power_on_regs { a = 0x80; f = 0x01 }) [] None (Took 7 ∷ [])
    (λ regs. record regs { r = 0x01; pc = 0x0002; a = 0x00; f = 0x56 }) [] ∷
    -- SBC A,01H | DE 01 | A=10 | 7 | A=0F F=12
    vector_line (0xDE ∷ 0x01 ∷ []) (record power_on_regs { a = 0x10 }) [] None (Took 7 ∷ [])
    (λ regs. record regs { r = 0x01; pc = 0x0002; a = 0x0F; f = 0x12 }) [] ∷
    -- CP 3CH | FE 3C | A=3C F=01 | 7 | F=42
    vector_line (0xFE ∷ 0x3C ∷ []) (record power_on_regs { a = 0x3C; f = 0x01 }) [] None (Took 7 ∷ [])
    (λ regs. record regs { r = 0x01; pc = 0x0002; f = 0x42 }) [] ∷
    -- CP 80H | FE 80 | A=7F | 7 | F=87
    vector_line (0xFE ∷ 0x80 ∷ []) (record power_on_regs { a = 0x7F }) [] None (Took 7 ∷ [])
    (λ regs. record regs { r = 0x01; pc = 0x0002; f = 0x87 }) [] ∷
    -- CP 01H | FE 01 | A=10 F=FF | 7 | F=3A
    vector_line (0xFE ∷ 0x01 ∷ []) (record power_on_regs { a = 0x10; f = 0xFF }) [] None (Took 7 ∷ [])
    (λ regs. record regs { r = 0x01; pc = 0x0002; f = 0x3A }) [] ∷
    -- AND 0FH | E6 0F | A=F0 F=03 | 7 | A=00 F=54
    vector_line (0xE6 ∷ 0x0F ∷ []) (record power_on_regs { a = 0xF0; f = 0x03 }) [] None (Took 7 ∷ [])
    (λ regs. record regs { r = 0x01; pc = 0x0002; a = 0x00; f = 0x54 }) [] ∷
    -- AND 80H | E6 80 | A=FF | 7 | A=80 F=90
    vector_line (0xE6 ∷ 0x80 ∷ []) (record power_on_regs { a = 0xFF }) [] None (Took 7 ∷ [])
    (λ regs. record regs { r = 0x01; pc = 0x0002; a = 0x80; f = 0x90 }) [] ∷
    -- AND 81H | E6 81 | A=FF F=FF | 7 | A=81 F=BC
    vector_line (0xE6 ∷ 0x81 ∷ []) (record power_on_regs { a = 0xFF; f = 0xFF }) [] None (Took 7 ∷ [])
    (λ regs. record regs { r = 0x01; pc = 0x0002; a = 0x81; f = 0xBC }) [] ∷
    -- XOR 0FFH | EE FF | A=AA F=13 | 7 | A=55 F=04
    vector_line (0xEE ∷ 0xFF ∷ []) (record power_on_regs { a = 0xAA; f = 0x13 }) [] None (Took 7 ∷ [])
    (λ regs. record regs { r = 0x01; pc = 0x0002; a = 0x55; f = 0x04 }) [] ∷
    -- XOR 5AH | EE 5A | A=5A | 7 | A=00 F=44
    vector_line (0xEE ∷ 0x5A ∷ []) (record power_on_regs { a = 0x5A }) [] None (Took 7 ∷ [])
    (λ regs. record regs { r = 0x01; pc = 0x0002; a = 0x00; f = 0x44 }) [] ∷
    -- OR 28H | F6 28 | A=28 | 7 | F=04
    vector_line (0xF6 ∷ 0x28 ∷ []) (record power_on_regs { a = 0x28 }) [] None (Took 7 ∷ [])
    (λ regs. record regs { r = 0x01; pc = 0x0002; f = 0x04 }) [] ∷
    -- OR 00H | F6 00 | A=80 | 7 | F=80
    vector_line (0xF6 ∷ 0x00 ∷ []) (record power_on_regs { a = 0x80 }) [] None (Took 7 ∷ [])
    (λ regs. record regs { r = 0x01; pc = 0x0002; f = 0x80 }) [] ∷
    -- OR 01H | F6 01 | F=FF | 7 | A=01 F=28
    vector_line (0xF6 ∷ 0x01 ∷ []) (record power_on_regs { f = 0xFF }) [] None (Took 7 ∷ [])
    (λ regs. record regs { r = 0x01; pc = 0x0002; a = 0x01; f = 0x28 }) [] ∷
    []
