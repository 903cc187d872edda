-- Law: Single bits of each register (UM0080, "Bit Set, Reset, and Test Group"; S and P/V, which it leaves open, stay: this profile). Made
-- by tools/make/make-vectors from tools/check/vectors.txt.
use Rattle.std.specs.Prelude.{List, [], ◌∷◌, None}
use Rattle.pac_bus.specs.Action.{Action, Write}
use Rattle.pac_exec.specs.declared.regs.Regs.{Regs}
use Rattle.pac_cpu.specs.Power.{power_on_regs}
use Rattle.pac_cpu_vectors.specs.Vectors.{VectorLine, vector_line, Took}

abbrev usual_1 : Regs
usual_1 = record power_on_regs { a = 0xAA; b = 0x55; c = 0x33; d = 0xCC; e = 0x0F; h = 0xF0; l = 0x96 }

abbrev usual_2 : Regs
usual_2 = record power_on_regs { a = 0xAA; f = 0xFF; b = 0x55; c = 0x33; d = 0xCC; e = 0x0F; h = 0xF0; l = 0x96 }

abbrev usual_3 : Regs
usual_3 = record power_on_regs { h = 0x4C; ix = 0x4C80; iy = 0x4B81 }

abbrev cells_3 : List Action
cells_3 = Write 0x4C00 0x5A ∷ []

-- the lines of the table
abbrev pub single_bits_of_each_register_lines : List VectorLine
single_bits_of_each_register_lines =
    -- BIT 0,C | CB 41 | F=29 | 8 | F=39
    vector_line (0xCB ∷ 0x41 ∷ []) (record usual_1 { f = 0x29 }) [] None (Took 8 ∷ [])
    (λ regs. record regs { r = 0x02; pc = 0x0002; f = 0x39 }) [] ∷
    -- BIT 0,D | CB 42 | F=FF | 8 | F=FD
    vector_line (0xCB ∷ 0x42 ∷ []) (record usual_1 { f = 0xFF }) [] None (Took 8 ∷ [])
    (λ regs. record regs { r = 0x02; pc = 0x0002; f = 0xFD }) [] ∷
    -- BIT 0,H | CB 44 | F=D6 | 8 | F=D4
    vector_line (0xCB ∷ 0x44 ∷ []) (record usual_1 { f = 0xD6 }) [] None (Took 8 ∷ [])
    (λ regs. record regs { r = 0x02; pc = 0x0002; f = 0xD4 }) [] ∷
    -- BIT 0,L | CB 45 | | 8 | F=50
    vector_line (0xCB ∷ 0x45 ∷ []) usual_1 [] None (Took 8 ∷ []) (λ regs. record regs { r = 0x02; pc = 0x0002; f = 0x50 }) [] ∷
    -- BIT 0,A | CB 47 | F=01 | 8 | F=51
    vector_line (0xCB ∷ 0x47 ∷ []) (record usual_1 { f = 0x01 }) [] None (Took 8 ∷ [])
    (λ regs. record regs { r = 0x02; pc = 0x0002; f = 0x51 }) [] ∷
    -- BIT 1,B | CB 48 | F=28 | 8 | F=78
    vector_line (0xCB ∷ 0x48 ∷ []) (record usual_1 { f = 0x28 }) [] None (Took 8 ∷ [])
    (λ regs. record regs { r = 0x02; pc = 0x0002; f = 0x78 }) [] ∷
    -- BIT 1,C | CB 49 | F=29 | 8 | F=39
    vector_line (0xCB ∷ 0x49 ∷ []) (record usual_1 { f = 0x29 }) [] None (Took 8 ∷ [])
    (λ regs. record regs { r = 0x02; pc = 0x0002; f = 0x39 }) [] ∷
    -- BIT 1,D | CB 4A | F=FF | 8 | F=FD
    vector_line (0xCB ∷ 0x4A ∷ []) (record usual_1 { f = 0xFF }) [] None (Took 8 ∷ [])
    (λ regs. record regs { r = 0x02; pc = 0x0002; f = 0xFD }) [] ∷
    -- BIT 1,H | CB 4C | F=D6 | 8 | F=D4
    vector_line (0xCB ∷ 0x4C ∷ []) (record usual_1 { f = 0xD6 }) [] None (Took 8 ∷ [])
    (λ regs. record regs { r = 0x02; pc = 0x0002; f = 0xD4 }) [] ∷
    -- BIT 1,L | CB 4D | | 8 | F=10
    vector_line (0xCB ∷ 0x4D ∷ []) usual_1 [] None (Took 8 ∷ []) (λ regs. record regs { r = 0x02; pc = 0x0002; f = 0x10 }) [] ∷
    -- BIT 1,A | CB 4F | F=01 | 8 | F=11
    vector_line (0xCB ∷ 0x4F ∷ []) (record usual_1 { f = 0x01 }) [] None (Took 8 ∷ [])
    (λ regs. record regs { r = 0x02; pc = 0x0002; f = 0x11 }) [] ∷
    -- BIT 2,B | CB 50 | F=28 | 8 | F=38
    vector_line (0xCB ∷ 0x50 ∷ []) (record usual_1 { f = 0x28 }) [] None (Took 8 ∷ [])
    (λ regs. record regs { r = 0x02; pc = 0x0002; f = 0x38 }) [] ∷
    -- BIT 2,C | CB 51 | F=29 | 8 | F=79
    vector_line (0xCB ∷ 0x51 ∷ []) (record usual_1 { f = 0x29 }) [] None (Took 8 ∷ [])
    (λ regs. record regs { r = 0x02; pc = 0x0002; f = 0x79 }) [] ∷
    -- BIT 2,D | CB 52 | F=FF | 8 | F=BD
    vector_line (0xCB ∷ 0x52 ∷ []) (record usual_1 { f = 0xFF }) [] None (Took 8 ∷ [])
    (λ regs. record regs { r = 0x02; pc = 0x0002; f = 0xBD }) [] ∷
    -- BIT 2,H | CB 54 | F=D6 | 8 | F=D4
    vector_line (0xCB ∷ 0x54 ∷ []) (record usual_1 { f = 0xD6 }) [] None (Took 8 ∷ [])
    (λ regs. record regs { r = 0x02; pc = 0x0002; f = 0xD4 }) [] ∷
    -- BIT 2,L | CB 55 | | 8 | F=10
    vector_line (0xCB ∷ 0x55 ∷ []) usual_1 [] None (Took 8 ∷ []) (λ regs. record regs { r = 0x02; pc = 0x0002; f = 0x10 }) [] ∷
    -- BIT 2,A | CB 57 | F=01 | 8 | F=51
    vector_line (0xCB ∷ 0x57 ∷ []) (record usual_1 { f = 0x01 }) [] None (Took 8 ∷ [])
    (λ regs. record regs { r = 0x02; pc = 0x0002; f = 0x51 }) [] ∷
    -- BIT 3,B | CB 58 | F=28 | 8 | F=78
    vector_line (0xCB ∷ 0x58 ∷ []) (record usual_1 { f = 0x28 }) [] None (Took 8 ∷ [])
    (λ regs. record regs { r = 0x02; pc = 0x0002; f = 0x78 }) [] ∷
    -- BIT 3,C | CB 59 | F=29 | 8 | F=79
    vector_line (0xCB ∷ 0x59 ∷ []) (record usual_1 { f = 0x29 }) [] None (Took 8 ∷ [])
    (λ regs. record regs { r = 0x02; pc = 0x0002; f = 0x79 }) [] ∷
    -- BIT 3,D | CB 5A | F=FF | 8 | F=BD
    vector_line (0xCB ∷ 0x5A ∷ []) (record usual_1 { f = 0xFF }) [] None (Took 8 ∷ [])
    (λ regs. record regs { r = 0x02; pc = 0x0002; f = 0xBD }) [] ∷
    -- BIT 3,H | CB 5C | F=D6 | 8 | F=D4
    vector_line (0xCB ∷ 0x5C ∷ []) (record usual_1 { f = 0xD6 }) [] None (Took 8 ∷ [])
    (λ regs. record regs { r = 0x02; pc = 0x0002; f = 0xD4 }) [] ∷
    -- BIT 3,L | CB 5D | | 8 | F=50
    vector_line (0xCB ∷ 0x5D ∷ []) usual_1 [] None (Took 8 ∷ []) (λ regs. record regs { r = 0x02; pc = 0x0002; f = 0x50 }) [] ∷
    -- BIT 3,A | CB 5F | F=01 | 8 | F=11
    vector_line (0xCB ∷ 0x5F ∷ []) (record usual_1 { f = 0x01 }) [] None (Took 8 ∷ [])
    (λ regs. record regs { r = 0x02; pc = 0x0002; f = 0x11 }) [] ∷
    -- BIT 4,C | CB 61 | F=28 | 8 | F=38
    vector_line (0xCB ∷ 0x61 ∷ []) (record usual_1 { f = 0x28 }) [] None (Took 8 ∷ [])
    (λ regs. record regs { r = 0x02; pc = 0x0002; f = 0x38 }) [] ∷
    -- BIT 4,D | CB 62 | F=29 | 8 | F=79
    vector_line (0xCB ∷ 0x62 ∷ []) (record usual_1 { f = 0x29 }) [] None (Took 8 ∷ [])
    (λ regs. record regs { r = 0x02; pc = 0x0002; f = 0x79 }) [] ∷
    -- BIT 4,H | CB 64 | F=FF | 8 | F=BD
    vector_line (0xCB ∷ 0x64 ∷ []) (record usual_1 { f = 0xFF }) [] None (Took 8 ∷ [])
    (λ regs. record regs { r = 0x02; pc = 0x0002; f = 0xBD }) [] ∷
    -- BIT 4,L | CB 65 | F=D6 | 8 | F=94
    vector_line (0xCB ∷ 0x65 ∷ []) (record usual_1 { f = 0xD6 }) [] None (Took 8 ∷ [])
    (λ regs. record regs { r = 0x02; pc = 0x0002; f = 0x94 }) [] ∷
    -- BIT 4,A | CB 67 | | 8 | F=50
    vector_line (0xCB ∷ 0x67 ∷ []) usual_1 [] None (Took 8 ∷ []) (λ regs. record regs { r = 0x02; pc = 0x0002; f = 0x50 }) [] ∷
    -- BIT 5,B | CB 68 | F=01 | 8 | F=51
    vector_line (0xCB ∷ 0x68 ∷ []) (record usual_1 { f = 0x01 }) [] None (Took 8 ∷ [])
    (λ regs. record regs { r = 0x02; pc = 0x0002; f = 0x51 }) [] ∷
    -- BIT 5,C | CB 69 | F=28 | 8 | F=38
    vector_line (0xCB ∷ 0x69 ∷ []) (record usual_1 { f = 0x28 }) [] None (Took 8 ∷ [])
    (λ regs. record regs { r = 0x02; pc = 0x0002; f = 0x38 }) [] ∷
    -- BIT 5,D | CB 6A | F=29 | 8 | F=79
    vector_line (0xCB ∷ 0x6A ∷ []) (record usual_1 { f = 0x29 }) [] None (Took 8 ∷ [])
    (λ regs. record regs { r = 0x02; pc = 0x0002; f = 0x79 }) [] ∷
    -- BIT 5,H | CB 6C | F=FF | 8 | F=BD
    vector_line (0xCB ∷ 0x6C ∷ []) (record usual_1 { f = 0xFF }) [] None (Took 8 ∷ [])
    (λ regs. record regs { r = 0x02; pc = 0x0002; f = 0xBD }) [] ∷
    -- BIT 5,L | CB 6D | F=D6 | 8 | F=D4
    vector_line (0xCB ∷ 0x6D ∷ []) (record usual_1 { f = 0xD6 }) [] None (Took 8 ∷ [])
    (λ regs. record regs { r = 0x02; pc = 0x0002; f = 0xD4 }) [] ∷
    -- BIT 5,A | CB 6F | | 8 | F=10
    vector_line (0xCB ∷ 0x6F ∷ []) usual_1 [] None (Took 8 ∷ []) (λ regs. record regs { r = 0x02; pc = 0x0002; f = 0x10 }) [] ∷
    -- BIT 6,B | CB 70 | F=01 | 8 | F=11
    vector_line (0xCB ∷ 0x70 ∷ []) (record usual_1 { f = 0x01 }) [] None (Took 8 ∷ [])
    (λ regs. record regs { r = 0x02; pc = 0x0002; f = 0x11 }) [] ∷
    -- BIT 6,C | CB 71 | F=28 | 8 | F=78
    vector_line (0xCB ∷ 0x71 ∷ []) (record usual_1 { f = 0x28 }) [] None (Took 8 ∷ [])
    (λ regs. record regs { r = 0x02; pc = 0x0002; f = 0x78 }) [] ∷
    -- BIT 6,D | CB 72 | F=29 | 8 | F=39
    vector_line (0xCB ∷ 0x72 ∷ []) (record usual_1 { f = 0x29 }) [] None (Took 8 ∷ [])
    (λ regs. record regs { r = 0x02; pc = 0x0002; f = 0x39 }) [] ∷
    -- BIT 6,H | CB 74 | F=FF | 8 | F=BD
    vector_line (0xCB ∷ 0x74 ∷ []) (record usual_1 { f = 0xFF }) [] None (Took 8 ∷ [])
    (λ regs. record regs { r = 0x02; pc = 0x0002; f = 0xBD }) [] ∷
    -- BIT 6,L | CB 75 | F=D6 | 8 | F=D4
    vector_line (0xCB ∷ 0x75 ∷ []) (record usual_1 { f = 0xD6 }) [] None (Took 8 ∷ [])
    (λ regs. record regs { r = 0x02; pc = 0x0002; f = 0xD4 }) [] ∷
    -- BIT 6,A | CB 77 | | 8 | F=50
    vector_line (0xCB ∷ 0x77 ∷ []) usual_1 [] None (Took 8 ∷ []) (λ regs. record regs { r = 0x02; pc = 0x0002; f = 0x50 }) [] ∷
    -- BIT 7,C | CB 79 | F=01 | 8 | F=51
    vector_line (0xCB ∷ 0x79 ∷ []) (record usual_1 { f = 0x01 }) [] None (Took 8 ∷ [])
    (λ regs. record regs { r = 0x02; pc = 0x0002; f = 0x51 }) [] ∷
    -- BIT 7,D | CB 7A | F=28 | 8 | F=38
    vector_line (0xCB ∷ 0x7A ∷ []) (record usual_1 { f = 0x28 }) [] None (Took 8 ∷ [])
    (λ regs. record regs { r = 0x02; pc = 0x0002; f = 0x38 }) [] ∷
    -- BIT 7,H | CB 7C | F=29 | 8 | F=39
    vector_line (0xCB ∷ 0x7C ∷ []) (record usual_1 { f = 0x29 }) [] None (Took 8 ∷ [])
    (λ regs. record regs { r = 0x02; pc = 0x0002; f = 0x39 }) [] ∷
    -- BIT 7,L | CB 7D | F=FF | 8 | F=BD
    vector_line (0xCB ∷ 0x7D ∷ []) (record usual_1 { f = 0xFF }) [] None (Took 8 ∷ [])
    (λ regs. record regs { r = 0x02; pc = 0x0002; f = 0xBD }) [] ∷
    -- BIT 7,A | CB 7F | F=D6 | 8 | F=94
    vector_line (0xCB ∷ 0x7F ∷ []) (record usual_1 { f = 0xD6 }) [] None (Took 8 ∷ [])
    (λ regs. record regs { r = 0x02; pc = 0x0002; f = 0x94 }) [] ∷
    -- SET 0,C | CB C1 | | 8 |
    vector_line (0xCB ∷ 0xC1 ∷ []) usual_2 [] None (Took 8 ∷ []) (λ regs. record regs { r = 0x02; pc = 0x0002 }) [] ∷
    -- SET 0,D | CB C2 | | 8 | D=CD
    vector_line (0xCB ∷ 0xC2 ∷ []) usual_2 [] None (Took 8 ∷ []) (λ regs. record regs { r = 0x02; pc = 0x0002; d = 0xCD }) [] ∷
    -- SET 0,H | CB C4 | | 8 | H=F1
    vector_line (0xCB ∷ 0xC4 ∷ []) usual_2 [] None (Took 8 ∷ []) (λ regs. record regs { r = 0x02; pc = 0x0002; h = 0xF1 }) [] ∷
    -- SET 0,L | CB C5 | | 8 | L=97
    vector_line (0xCB ∷ 0xC5 ∷ []) usual_2 [] None (Took 8 ∷ []) (λ regs. record regs { r = 0x02; pc = 0x0002; l = 0x97 }) [] ∷
    -- SET 0,A | CB C7 | | 8 | A=AB
    vector_line (0xCB ∷ 0xC7 ∷ []) usual_2 [] None (Took 8 ∷ []) (λ regs. record regs { r = 0x02; pc = 0x0002; a = 0xAB }) [] ∷
    -- SET 1,B | CB C8 | | 8 | B=57
    vector_line (0xCB ∷ 0xC8 ∷ []) usual_2 [] None (Took 8 ∷ []) (λ regs. record regs { r = 0x02; pc = 0x0002; b = 0x57 }) [] ∷
    -- SET 1,C | CB C9 | | 8 |
    vector_line (0xCB ∷ 0xC9 ∷ []) usual_2 [] None (Took 8 ∷ []) (λ regs. record regs { r = 0x02; pc = 0x0002 }) [] ∷
    -- SET 1,D | CB CA | | 8 | D=CE
    vector_line (0xCB ∷ 0xCA ∷ []) usual_2 [] None (Took 8 ∷ []) (λ regs. record regs { r = 0x02; pc = 0x0002; d = 0xCE }) [] ∷
    -- SET 1,H | CB CC | | 8 | H=F2
    vector_line (0xCB ∷ 0xCC ∷ []) usual_2 [] None (Took 8 ∷ []) (λ regs. record regs { r = 0x02; pc = 0x0002; h = 0xF2 }) [] ∷
    -- SET 1,L | CB CD | | 8 |
    vector_line (0xCB ∷ 0xCD ∷ []) usual_2 [] None (Took 8 ∷ []) (λ regs. record regs { r = 0x02; pc = 0x0002 }) [] ∷
    -- SET 1,A | CB CF | | 8 |
    vector_line (0xCB ∷ 0xCF ∷ []) usual_2 [] None (Took 8 ∷ []) (λ regs. record regs { r = 0x02; pc = 0x0002 }) [] ∷
    -- SET 2,B | CB D0 | | 8 |
    vector_line (0xCB ∷ 0xD0 ∷ []) usual_2 [] None (Took 8 ∷ []) (λ regs. record regs { r = 0x02; pc = 0x0002 }) [] ∷
    -- SET 2,C | CB D1 | | 8 | C=37
    vector_line (0xCB ∷ 0xD1 ∷ []) usual_2 [] None (Took 8 ∷ []) (λ regs. record regs { r = 0x02; pc = 0x0002; c = 0x37 }) [] ∷
    -- SET 2,D | CB D2 | | 8 |
    vector_line (0xCB ∷ 0xD2 ∷ []) usual_2 [] None (Took 8 ∷ []) (λ regs. record regs { r = 0x02; pc = 0x0002 }) [] ∷
    -- SET 2,H | CB D4 | | 8 | H=F4
    vector_line (0xCB ∷ 0xD4 ∷ []) usual_2 [] None (Took 8 ∷ []) (λ regs. record regs { r = 0x02; pc = 0x0002; h = 0xF4 }) [] ∷
    -- SET 2,L | CB D5 | | 8 |
    vector_line (0xCB ∷ 0xD5 ∷ []) usual_2 [] None (Took 8 ∷ []) (λ regs. record regs { r = 0x02; pc = 0x0002 }) [] ∷
    -- SET 2,A | CB D7 | | 8 | A=AE
    vector_line (0xCB ∷ 0xD7 ∷ []) usual_2 [] None (Took 8 ∷ []) (λ regs. record regs { r = 0x02; pc = 0x0002; a = 0xAE }) [] ∷
    -- SET 3,B | CB D8 | | 8 | B=5D
    vector_line (0xCB ∷ 0xD8 ∷ []) usual_2 [] None (Took 8 ∷ []) (λ regs. record regs { r = 0x02; pc = 0x0002; b = 0x5D }) [] ∷
    -- SET 3,C | CB D9 | | 8 | C=3B
    vector_line (0xCB ∷ 0xD9 ∷ []) usual_2 [] None (Took 8 ∷ []) (λ regs. record regs { r = 0x02; pc = 0x0002; c = 0x3B }) [] ∷
    -- SET 3,D | CB DA | | 8 |
    vector_line (0xCB ∷ 0xDA ∷ []) usual_2 [] None (Took 8 ∷ []) (λ regs. record regs { r = 0x02; pc = 0x0002 }) [] ∷
    -- SET 3,H | CB DC | | 8 | H=F8
    vector_line (0xCB ∷ 0xDC ∷ []) usual_2 [] None (Took 8 ∷ []) (λ regs. record regs { r = 0x02; pc = 0x0002; h = 0xF8 }) [] ∷
    -- SET 3,L | CB DD | | 8 | L=9E
    vector_line (0xCB ∷ 0xDD ∷ []) usual_2 [] None (Took 8 ∷ []) (λ regs. record regs { r = 0x02; pc = 0x0002; l = 0x9E }) [] ∷
    -- SET 3,A | CB DF | | 8 |
    vector_line (0xCB ∷ 0xDF ∷ []) usual_2 [] None (Took 8 ∷ []) (λ regs. record regs { r = 0x02; pc = 0x0002 }) [] ∷
    -- SET 4,C | CB E1 | | 8 |
    vector_line (0xCB ∷ 0xE1 ∷ []) usual_2 [] None (Took 8 ∷ []) (λ regs. record regs { r = 0x02; pc = 0x0002 }) [] ∷
    -- SET 4,D | CB E2 | | 8 | D=DC
    vector_line (0xCB ∷ 0xE2 ∷ []) usual_2 [] None (Took 8 ∷ []) (λ regs. record regs { r = 0x02; pc = 0x0002; d = 0xDC }) [] ∷
    -- SET 4,H | CB E4 | | 8 |
    vector_line (0xCB ∷ 0xE4 ∷ []) usual_2 [] None (Took 8 ∷ []) (λ regs. record regs { r = 0x02; pc = 0x0002 }) [] ∷
    -- SET 4,L | CB E5 | | 8 |
    vector_line (0xCB ∷ 0xE5 ∷ []) usual_2 [] None (Took 8 ∷ []) (λ regs. record regs { r = 0x02; pc = 0x0002 }) [] ∷
    -- SET 4,A | CB E7 | | 8 | A=BA
    vector_line (0xCB ∷ 0xE7 ∷ []) usual_2 [] None (Took 8 ∷ []) (λ regs. record regs { r = 0x02; pc = 0x0002; a = 0xBA }) [] ∷
    -- SET 5,B | CB E8 | | 8 | B=75
    vector_line (0xCB ∷ 0xE8 ∷ []) usual_2 [] None (Took 8 ∷ []) (λ regs. record regs { r = 0x02; pc = 0x0002; b = 0x75 }) [] ∷
    -- SET 5,C | CB E9 | | 8 |
    vector_line (0xCB ∷ 0xE9 ∷ []) usual_2 [] None (Took 8 ∷ []) (λ regs. record regs { r = 0x02; pc = 0x0002 }) [] ∷
    -- SET 5,D | CB EA | | 8 | D=EC
    vector_line (0xCB ∷ 0xEA ∷ []) usual_2 [] None (Took 8 ∷ []) (λ regs. record regs { r = 0x02; pc = 0x0002; d = 0xEC }) [] ∷
    -- SET 5,H | CB EC | | 8 |
    vector_line (0xCB ∷ 0xEC ∷ []) usual_2 [] None (Took 8 ∷ []) (λ regs. record regs { r = 0x02; pc = 0x0002 }) [] ∷
    -- SET 5,L | CB ED | | 8 | L=B6
    vector_line (0xCB ∷ 0xED ∷ []) usual_2 [] None (Took 8 ∷ []) (λ regs. record regs { r = 0x02; pc = 0x0002; l = 0xB6 }) [] ∷
    -- SET 5,A | CB EF | | 8 |
    vector_line (0xCB ∷ 0xEF ∷ []) usual_2 [] None (Took 8 ∷ []) (λ regs. record regs { r = 0x02; pc = 0x0002 }) [] ∷
    -- SET 6,C | CB F1 | | 8 | C=73
    vector_line (0xCB ∷ 0xF1 ∷ []) usual_2 [] None (Took 8 ∷ []) (λ regs. record regs { r = 0x02; pc = 0x0002; c = 0x73 }) [] ∷
    -- SET 6,D | CB F2 | | 8 |
    vector_line (0xCB ∷ 0xF2 ∷ []) usual_2 [] None (Took 8 ∷ []) (λ regs. record regs { r = 0x02; pc = 0x0002 }) [] ∷
    -- SET 6,H | CB F4 | | 8 |
    vector_line (0xCB ∷ 0xF4 ∷ []) usual_2 [] None (Took 8 ∷ []) (λ regs. record regs { r = 0x02; pc = 0x0002 }) [] ∷
    -- SET 6,L | CB F5 | | 8 | L=D6
    vector_line (0xCB ∷ 0xF5 ∷ []) usual_2 [] None (Took 8 ∷ []) (λ regs. record regs { r = 0x02; pc = 0x0002; l = 0xD6 }) [] ∷
    -- SET 6,A | CB F7 | | 8 | A=EA
    vector_line (0xCB ∷ 0xF7 ∷ []) usual_2 [] None (Took 8 ∷ []) (λ regs. record regs { r = 0x02; pc = 0x0002; a = 0xEA }) [] ∷
    -- SET 7,C | CB F9 | | 8 | C=B3
    vector_line (0xCB ∷ 0xF9 ∷ []) usual_2 [] None (Took 8 ∷ []) (λ regs. record regs { r = 0x02; pc = 0x0002; c = 0xB3 }) [] ∷
    -- SET 7,D | CB FA | | 8 |
    vector_line (0xCB ∷ 0xFA ∷ []) usual_2 [] None (Took 8 ∷ []) (λ regs. record regs { r = 0x02; pc = 0x0002 }) [] ∷
    -- SET 7,H | CB FC | | 8 |
    vector_line (0xCB ∷ 0xFC ∷ []) usual_2 [] None (Took 8 ∷ []) (λ regs. record regs { r = 0x02; pc = 0x0002 }) [] ∷
    -- SET 7,L | CB FD | | 8 |
    vector_line (0xCB ∷ 0xFD ∷ []) usual_2 [] None (Took 8 ∷ []) (λ regs. record regs { r = 0x02; pc = 0x0002 }) [] ∷
    -- SET 7,A | CB FF | | 8 |
    vector_line (0xCB ∷ 0xFF ∷ []) usual_2 [] None (Took 8 ∷ []) (λ regs. record regs { r = 0x02; pc = 0x0002 }) [] ∷
    -- RES 0,C | CB 81 | | 8 | C=32
    vector_line (0xCB ∷ 0x81 ∷ []) usual_2 [] None (Took 8 ∷ []) (λ regs. record regs { r = 0x02; pc = 0x0002; c = 0x32 }) [] ∷
    -- RES 0,D | CB 82 | | 8 |
    vector_line (0xCB ∷ 0x82 ∷ []) usual_2 [] None (Took 8 ∷ []) (λ regs. record regs { r = 0x02; pc = 0x0002 }) [] ∷
    -- RES 0,H | CB 84 | | 8 |
    vector_line (0xCB ∷ 0x84 ∷ []) usual_2 [] None (Took 8 ∷ []) (λ regs. record regs { r = 0x02; pc = 0x0002 }) [] ∷
    -- RES 0,L | CB 85 | | 8 |
    vector_line (0xCB ∷ 0x85 ∷ []) usual_2 [] None (Took 8 ∷ []) (λ regs. record regs { r = 0x02; pc = 0x0002 }) [] ∷
    -- RES 0,A | CB 87 | | 8 |
    vector_line (0xCB ∷ 0x87 ∷ []) usual_2 [] None (Took 8 ∷ []) (λ regs. record regs { r = 0x02; pc = 0x0002 }) [] ∷
    -- RES 1,B | CB 88 | | 8 |
    vector_line (0xCB ∷ 0x88 ∷ []) usual_2 [] None (Took 8 ∷ []) (λ regs. record regs { r = 0x02; pc = 0x0002 }) [] ∷
    -- RES 1,C | CB 89 | | 8 | C=31
    vector_line (0xCB ∷ 0x89 ∷ []) usual_2 [] None (Took 8 ∷ []) (λ regs. record regs { r = 0x02; pc = 0x0002; c = 0x31 }) [] ∷
    -- RES 1,D | CB 8A | | 8 |
    vector_line (0xCB ∷ 0x8A ∷ []) usual_2 [] None (Took 8 ∷ []) (λ regs. record regs { r = 0x02; pc = 0x0002 }) [] ∷
    -- RES 1,H | CB 8C | | 8 |
    vector_line (0xCB ∷ 0x8C ∷ []) usual_2 [] None (Took 8 ∷ []) (λ regs. record regs { r = 0x02; pc = 0x0002 }) [] ∷
    -- RES 1,L | CB 8D | | 8 | L=94
    vector_line (0xCB ∷ 0x8D ∷ []) usual_2 [] None (Took 8 ∷ []) (λ regs. record regs { r = 0x02; pc = 0x0002; l = 0x94 }) [] ∷
    -- RES 1,A | CB 8F | | 8 | A=A8
    vector_line (0xCB ∷ 0x8F ∷ []) usual_2 [] None (Took 8 ∷ []) (λ regs. record regs { r = 0x02; pc = 0x0002; a = 0xA8 }) [] ∷
    -- RES 2,B | CB 90 | | 8 | B=51
    vector_line (0xCB ∷ 0x90 ∷ []) usual_2 [] None (Took 8 ∷ []) (λ regs. record regs { r = 0x02; pc = 0x0002; b = 0x51 }) [] ∷
    -- RES 2,C | CB 91 | | 8 |
    vector_line (0xCB ∷ 0x91 ∷ []) usual_2 [] None (Took 8 ∷ []) (λ regs. record regs { r = 0x02; pc = 0x0002 }) [] ∷
    -- RES 2,D | CB 92 | | 8 | D=C8
    vector_line (0xCB ∷ 0x92 ∷ []) usual_2 [] None (Took 8 ∷ []) (λ regs. record regs { r = 0x02; pc = 0x0002; d = 0xC8 }) [] ∷
    -- RES 2,H | CB 94 | | 8 |
    vector_line (0xCB ∷ 0x94 ∷ []) usual_2 [] None (Took 8 ∷ []) (λ regs. record regs { r = 0x02; pc = 0x0002 }) [] ∷
    -- RES 2,L | CB 95 | | 8 | L=92
    vector_line (0xCB ∷ 0x95 ∷ []) usual_2 [] None (Took 8 ∷ []) (λ regs. record regs { r = 0x02; pc = 0x0002; l = 0x92 }) [] ∷
    -- RES 2,A | CB 97 | | 8 |
    vector_line (0xCB ∷ 0x97 ∷ []) usual_2 [] None (Took 8 ∷ []) (λ regs. record regs { r = 0x02; pc = 0x0002 }) [] ∷
    -- RES 3,B | CB 98 | | 8 |
    vector_line (0xCB ∷ 0x98 ∷ []) usual_2 [] None (Took 8 ∷ []) (λ regs. record regs { r = 0x02; pc = 0x0002 }) [] ∷
    -- RES 3,C | CB 99 | | 8 |
    vector_line (0xCB ∷ 0x99 ∷ []) usual_2 [] None (Took 8 ∷ []) (λ regs. record regs { r = 0x02; pc = 0x0002 }) [] ∷
    -- RES 3,D | CB 9A | | 8 | D=C4
    vector_line (0xCB ∷ 0x9A ∷ []) usual_2 [] None (Took 8 ∷ []) (λ regs. record regs { r = 0x02; pc = 0x0002; d = 0xC4 }) [] ∷
    -- RES 3,H | CB 9C | | 8 |
    vector_line (0xCB ∷ 0x9C ∷ []) usual_2 [] None (Took 8 ∷ []) (λ regs. record regs { r = 0x02; pc = 0x0002 }) [] ∷
    -- RES 3,L | CB 9D | | 8 |
    vector_line (0xCB ∷ 0x9D ∷ []) usual_2 [] None (Took 8 ∷ []) (λ regs. record regs { r = 0x02; pc = 0x0002 }) [] ∷
    -- RES 3,A | CB 9F | | 8 | A=A2
    vector_line (0xCB ∷ 0x9F ∷ []) usual_2 [] None (Took 8 ∷ []) (λ regs. record regs { r = 0x02; pc = 0x0002; a = 0xA2 }) [] ∷
    -- RES 4,C | CB A1 | | 8 | C=23
    vector_line (0xCB ∷ 0xA1 ∷ []) usual_2 [] None (Took 8 ∷ []) (λ regs. record regs { r = 0x02; pc = 0x0002; c = 0x23 }) [] ∷
    -- RES 4,D | CB A2 | | 8 |
    vector_line (0xCB ∷ 0xA2 ∷ []) usual_2 [] None (Took 8 ∷ []) (λ regs. record regs { r = 0x02; pc = 0x0002 }) [] ∷
    -- RES 4,H | CB A4 | | 8 | H=E0
    vector_line (0xCB ∷ 0xA4 ∷ []) usual_2 [] None (Took 8 ∷ []) (λ regs. record regs { r = 0x02; pc = 0x0002; h = 0xE0 }) [] ∷
    -- RES 4,L | CB A5 | | 8 | L=86
    vector_line (0xCB ∷ 0xA5 ∷ []) usual_2 [] None (Took 8 ∷ []) (λ regs. record regs { r = 0x02; pc = 0x0002; l = 0x86 }) [] ∷
    -- RES 4,A | CB A7 | | 8 |
    vector_line (0xCB ∷ 0xA7 ∷ []) usual_2 [] None (Took 8 ∷ []) (λ regs. record regs { r = 0x02; pc = 0x0002 }) [] ∷
    -- RES 5,B | CB A8 | | 8 |
    vector_line (0xCB ∷ 0xA8 ∷ []) usual_2 [] None (Took 8 ∷ []) (λ regs. record regs { r = 0x02; pc = 0x0002 }) [] ∷
    -- RES 5,C | CB A9 | | 8 | C=13
    vector_line (0xCB ∷ 0xA9 ∷ []) usual_2 [] None (Took 8 ∷ []) (λ regs. record regs { r = 0x02; pc = 0x0002; c = 0x13 }) [] ∷
    -- RES 5,D | CB AA | | 8 |
    vector_line (0xCB ∷ 0xAA ∷ []) usual_2 [] None (Took 8 ∷ []) (λ regs. record regs { r = 0x02; pc = 0x0002 }) [] ∷
    -- RES 5,H | CB AC | | 8 | H=D0
    vector_line (0xCB ∷ 0xAC ∷ []) usual_2 [] None (Took 8 ∷ []) (λ regs. record regs { r = 0x02; pc = 0x0002; h = 0xD0 }) [] ∷
    -- RES 5,L | CB AD | | 8 |
    vector_line (0xCB ∷ 0xAD ∷ []) usual_2 [] None (Took 8 ∷ []) (λ regs. record regs { r = 0x02; pc = 0x0002 }) [] ∷
    -- RES 5,A | CB AF | | 8 | A=8A
    vector_line (0xCB ∷ 0xAF ∷ []) usual_2 [] None (Took 8 ∷ []) (λ regs. record regs { r = 0x02; pc = 0x0002; a = 0x8A }) [] ∷
    -- RES 6,C | CB B1 | | 8 |
    vector_line (0xCB ∷ 0xB1 ∷ []) usual_2 [] None (Took 8 ∷ []) (λ regs. record regs { r = 0x02; pc = 0x0002 }) [] ∷
    -- RES 6,D | CB B2 | | 8 | D=8C
    vector_line (0xCB ∷ 0xB2 ∷ []) usual_2 [] None (Took 8 ∷ []) (λ regs. record regs { r = 0x02; pc = 0x0002; d = 0x8C }) [] ∷
    -- RES 6,H | CB B4 | | 8 | H=B0
    vector_line (0xCB ∷ 0xB4 ∷ []) usual_2 [] None (Took 8 ∷ []) (λ regs. record regs { r = 0x02; pc = 0x0002; h = 0xB0 }) [] ∷
    -- RES 6,L | CB B5 | | 8 |
    vector_line (0xCB ∷ 0xB5 ∷ []) usual_2 [] None (Took 8 ∷ []) (λ regs. record regs { r = 0x02; pc = 0x0002 }) [] ∷
    -- RES 6,A | CB B7 | | 8 |
    vector_line (0xCB ∷ 0xB7 ∷ []) usual_2 [] None (Took 8 ∷ []) (λ regs. record regs { r = 0x02; pc = 0x0002 }) [] ∷
    -- RES 7,C | CB B9 | | 8 |
    vector_line (0xCB ∷ 0xB9 ∷ []) usual_2 [] None (Took 8 ∷ []) (λ regs. record regs { r = 0x02; pc = 0x0002 }) [] ∷
    -- RES 7,D | CB BA | | 8 | D=4C
    vector_line (0xCB ∷ 0xBA ∷ []) usual_2 [] None (Took 8 ∷ []) (λ regs. record regs { r = 0x02; pc = 0x0002; d = 0x4C }) [] ∷
    -- RES 7,H | CB BC | | 8 | H=70
    vector_line (0xCB ∷ 0xBC ∷ []) usual_2 [] None (Took 8 ∷ []) (λ regs. record regs { r = 0x02; pc = 0x0002; h = 0x70 }) [] ∷
    -- RES 7,L | CB BD | | 8 | L=16
    vector_line (0xCB ∷ 0xBD ∷ []) usual_2 [] None (Took 8 ∷ []) (λ regs. record regs { r = 0x02; pc = 0x0002; l = 0x16 }) [] ∷
    -- RES 7,A | CB BF | | 8 | A=2A
    vector_line (0xCB ∷ 0xBF ∷ []) usual_2 [] None (Took 8 ∷ []) (λ regs. record regs { r = 0x02; pc = 0x0002; a = 0x2A }) [] ∷
    -- BIT 1,(HL) | CB 4E | | 12 | F=10
    vector_line (0xCB ∷ 0x4E ∷ []) usual_3 cells_3 None (Took 12 ∷ []) (λ regs. record regs { r = 0x02; pc = 0x0002; f = 0x10 }) [] ∷
    -- BIT 2,(HL) | CB 56 | F=01 | 12 | F=51
    vector_line (0xCB ∷ 0x56 ∷ []) (record usual_3 { f = 0x01 }) cells_3 None (Took 12 ∷ [])
    (λ regs. record regs { r = 0x02; pc = 0x0002; f = 0x51 }) [] ∷
    -- BIT 4,(HL) | CB 66 | F=28 | 12 | F=38
    vector_line (0xCB ∷ 0x66 ∷ []) (record usual_3 { f = 0x28 }) cells_3 None (Took 12 ∷ [])
    (λ regs. record regs { r = 0x02; pc = 0x0002; f = 0x38 }) [] ∷
    -- BIT 5,(HL) | CB 6E | F=29 | 12 | F=79
    vector_line (0xCB ∷ 0x6E ∷ []) (record usual_3 { f = 0x29 }) cells_3 None (Took 12 ∷ [])
    (λ regs. record regs { r = 0x02; pc = 0x0002; f = 0x79 }) [] ∷
    -- BIT 6,(HL) | CB 76 | F=FF | 12 | F=BD
    vector_line (0xCB ∷ 0x76 ∷ []) (record usual_3 { f = 0xFF }) cells_3 None (Took 12 ∷ [])
    (λ regs. record regs { r = 0x02; pc = 0x0002; f = 0xBD }) [] ∷
    -- SET 1,(HL) | CB CE | F=FF | 15 | (4C00)=5A
    vector_line (0xCB ∷ 0xCE ∷ []) (record usual_3 { f = 0xFF }) cells_3 None (Took 15 ∷ [])
    (λ regs. record regs { r = 0x02; pc = 0x0002 }) (Write 0x4C00 0x5A ∷ []) ∷
    -- SET 2,(HL) | CB D6 | F=FF | 15 | (4C00)=5E
    vector_line (0xCB ∷ 0xD6 ∷ []) (record usual_3 { f = 0xFF }) cells_3 None (Took 15 ∷ [])
    (λ regs. record regs { r = 0x02; pc = 0x0002 }) (Write 0x4C00 0x5E ∷ []) ∷
    -- SET 4,(HL) | CB E6 | F=FF | 15 | (4C00)=5A
    vector_line (0xCB ∷ 0xE6 ∷ []) (record usual_3 { f = 0xFF }) cells_3 None (Took 15 ∷ [])
    (λ regs. record regs { r = 0x02; pc = 0x0002 }) (Write 0x4C00 0x5A ∷ []) ∷
    -- SET 5,(HL) | CB EE | F=FF | 15 | (4C00)=7A
    vector_line (0xCB ∷ 0xEE ∷ []) (record usual_3 { f = 0xFF }) cells_3 None (Took 15 ∷ [])
    (λ regs. record regs { r = 0x02; pc = 0x0002 }) (Write 0x4C00 0x7A ∷ []) ∷
    -- SET 6,(HL) | CB F6 | F=FF | 15 | (4C00)=5A
    vector_line (0xCB ∷ 0xF6 ∷ []) (record usual_3 { f = 0xFF }) cells_3 None (Took 15 ∷ [])
    (λ regs. record regs { r = 0x02; pc = 0x0002 }) (Write 0x4C00 0x5A ∷ []) ∷
    -- RES 1,(HL) | CB 8E | F=FF | 15 | (4C00)=58
    vector_line (0xCB ∷ 0x8E ∷ []) (record usual_3 { f = 0xFF }) cells_3 None (Took 15 ∷ [])
    (λ regs. record regs { r = 0x02; pc = 0x0002 }) (Write 0x4C00 0x58 ∷ []) ∷
    -- RES 2,(HL) | CB 96 | F=FF | 15 | (4C00)=5A
    vector_line (0xCB ∷ 0x96 ∷ []) (record usual_3 { f = 0xFF }) cells_3 None (Took 15 ∷ [])
    (λ regs. record regs { r = 0x02; pc = 0x0002 }) (Write 0x4C00 0x5A ∷ []) ∷
    -- RES 4,(HL) | CB A6 | F=FF | 15 | (4C00)=4A
    vector_line (0xCB ∷ 0xA6 ∷ []) (record usual_3 { f = 0xFF }) cells_3 None (Took 15 ∷ [])
    (λ regs. record regs { r = 0x02; pc = 0x0002 }) (Write 0x4C00 0x4A ∷ []) ∷
    -- RES 5,(HL) | CB AE | F=FF | 15 | (4C00)=5A
    vector_line (0xCB ∷ 0xAE ∷ []) (record usual_3 { f = 0xFF }) cells_3 None (Took 15 ∷ [])
    (λ regs. record regs { r = 0x02; pc = 0x0002 }) (Write 0x4C00 0x5A ∷ []) ∷
    -- RES 6,(HL) | CB B6 | F=FF | 15 | (4C00)=1A
    vector_line (0xCB ∷ 0xB6 ∷ []) (record usual_3 { f = 0xFF }) cells_3 None (Took 15 ∷ [])
    (λ regs. record regs { r = 0x02; pc = 0x0002 }) (Write 0x4C00 0x1A ∷ []) ∷
    -- BIT 1,(IX-80H) | DD CB 80 4E | F=D6 | 20 | F=94
    vector_line (0xDD ∷ 0xCB ∷ 0x80 ∷ 0x4E ∷ []) (record usual_3 { f = 0xD6 }) cells_3 None (Took 20 ∷ [])
    (λ regs. record regs { r = 0x02; pc = 0x0004; f = 0x94 }) [] ∷
    -- BIT 2,(IX-80H) | DD CB 80 56 | | 20 | F=50
    vector_line (0xDD ∷ 0xCB ∷ 0x80 ∷ 0x56 ∷ []) usual_3 cells_3 None (Took 20 ∷ [])
    (λ regs. record regs { r = 0x02; pc = 0x0004; f = 0x50 }) [] ∷
    -- BIT 4,(IX-80H) | DD CB 80 66 | F=01 | 20 | F=11
    vector_line (0xDD ∷ 0xCB ∷ 0x80 ∷ 0x66 ∷ []) (record usual_3 { f = 0x01 }) cells_3 None (Took 20 ∷ [])
    (λ regs. record regs { r = 0x02; pc = 0x0004; f = 0x11 }) [] ∷
    -- BIT 5,(IX-80H) | DD CB 80 6E | F=28 | 20 | F=78
    vector_line (0xDD ∷ 0xCB ∷ 0x80 ∷ 0x6E ∷ []) (record usual_3 { f = 0x28 }) cells_3 None (Took 20 ∷ [])
    (λ regs. record regs { r = 0x02; pc = 0x0004; f = 0x78 }) [] ∷
    -- BIT 6,(IX-80H) | DD CB 80 76 | F=29 | 20 | F=39
    vector_line (0xDD ∷ 0xCB ∷ 0x80 ∷ 0x76 ∷ []) (record usual_3 { f = 0x29 }) cells_3 None (Took 20 ∷ [])
    (λ regs. record regs { r = 0x02; pc = 0x0004; f = 0x39 }) [] ∷
    -- SET 1,(IX-80H) | DD CB 80 CE | F=FF | 23 | (4C00)=5A
    vector_line (0xDD ∷ 0xCB ∷ 0x80 ∷ 0xCE ∷ []) (record usual_3 { f = 0xFF }) cells_3 None (Took 23 ∷ [])
    (λ regs. record regs { r = 0x02; pc = 0x0004 }) (Write 0x4C00 0x5A ∷ []) ∷
    -- SET 2,(IX-80H) | DD CB 80 D6 | F=FF | 23 | (4C00)=5E
    vector_line (0xDD ∷ 0xCB ∷ 0x80 ∷ 0xD6 ∷ []) (record usual_3 { f = 0xFF }) cells_3 None (Took 23 ∷ [])
    (λ regs. record regs { r = 0x02; pc = 0x0004 }) (Write 0x4C00 0x5E ∷ []) ∷
    -- SET 4,(IX-80H) | DD CB 80 E6 | F=FF | 23 | (4C00)=5A
    vector_line (0xDD ∷ 0xCB ∷ 0x80 ∷ 0xE6 ∷ []) (record usual_3 { f = 0xFF }) cells_3 None (Took 23 ∷ [])
    (λ regs. record regs { r = 0x02; pc = 0x0004 }) (Write 0x4C00 0x5A ∷ []) ∷
    -- SET 5,(IX-80H) | DD CB 80 EE | F=FF | 23 | (4C00)=7A
    vector_line (0xDD ∷ 0xCB ∷ 0x80 ∷ 0xEE ∷ []) (record usual_3 { f = 0xFF }) cells_3 None (Took 23 ∷ [])
    (λ regs. record regs { r = 0x02; pc = 0x0004 }) (Write 0x4C00 0x7A ∷ []) ∷
    -- SET 6,(IX-80H) | DD CB 80 F6 | F=FF | 23 | (4C00)=5A
    vector_line (0xDD ∷ 0xCB ∷ 0x80 ∷ 0xF6 ∷ []) (record usual_3 { f = 0xFF }) cells_3 None (Took 23 ∷ [])
    (λ regs. record regs { r = 0x02; pc = 0x0004 }) (Write 0x4C00 0x5A ∷ []) ∷
    -- RES 1,(IX-80H) | DD CB 80 8E | F=FF | 23 | (4C00)=58
    vector_line (0xDD ∷ 0xCB ∷ 0x80 ∷ 0x8E ∷ []) (record usual_3 { f = 0xFF }) cells_3 None (Took 23 ∷ [])
    (λ regs. record regs { r = 0x02; pc = 0x0004 }) (Write 0x4C00 0x58 ∷ []) ∷
    -- RES 2,(IX-80H) | DD CB 80 96 | F=FF | 23 | (4C00)=5A
    vector_line (0xDD ∷ 0xCB ∷ 0x80 ∷ 0x96 ∷ []) (record usual_3 { f = 0xFF }) cells_3 None (Took 23 ∷ [])
    (λ regs. record regs { r = 0x02; pc = 0x0004 }) (Write 0x4C00 0x5A ∷ []) ∷
    -- RES 4,(IX-80H) | DD CB 80 A6 | F=FF | 23 | (4C00)=4A
    vector_line (0xDD ∷ 0xCB ∷ 0x80 ∷ 0xA6 ∷ []) (record usual_3 { f = 0xFF }) cells_3 None (Took 23 ∷ [])
    (λ regs. record regs { r = 0x02; pc = 0x0004 }) (Write 0x4C00 0x4A ∷ []) ∷
    -- RES 5,(IX-80H) | DD CB 80 AE | F=FF | 23 | (4C00)=5A
    vector_line (0xDD ∷ 0xCB ∷ 0x80 ∷ 0xAE ∷ []) (record usual_3 { f = 0xFF }) cells_3 None (Took 23 ∷ [])
    (λ regs. record regs { r = 0x02; pc = 0x0004 }) (Write 0x4C00 0x5A ∷ []) ∷
    -- RES 6,(IX-80H) | DD CB 80 B6 | F=FF | 23 | (4C00)=1A
    vector_line (0xDD ∷ 0xCB ∷ 0x80 ∷ 0xB6 ∷ []) (record usual_3 { f = 0xFF }) cells_3 None (Took 23 ∷ [])
    (λ regs. record regs { r = 0x02; pc = 0x0004 }) (Write 0x4C00 0x1A ∷ []) ∷
    -- BIT 1,(IY+7FH) | FD CB 7F 4E | F=FF | 20 | F=BD
    vector_line (0xFD ∷ 0xCB ∷ 0x7F ∷ 0x4E ∷ []) (record usual_3 { f = 0xFF }) cells_3 None (Took 20 ∷ [])
    (λ regs. record regs { r = 0x02; pc = 0x0004; f = 0xBD }) [] ∷
    -- BIT 2,(IY+7FH) | FD CB 7F 56 | F=D6 | 20 | F=D4
    vector_line (0xFD ∷ 0xCB ∷ 0x7F ∷ 0x56 ∷ []) (record usual_3 { f = 0xD6 }) cells_3 None (Took 20 ∷ [])
    (λ regs. record regs { r = 0x02; pc = 0x0004; f = 0xD4 }) [] ∷
    -- BIT 4,(IY+7FH) | FD CB 7F 66 | | 20 | F=10
    vector_line (0xFD ∷ 0xCB ∷ 0x7F ∷ 0x66 ∷ []) usual_3 cells_3 None (Took 20 ∷ [])
    (λ regs. record regs { r = 0x02; pc = 0x0004; f = 0x10 }) [] ∷
    -- BIT 5,(IY+7FH) | FD CB 7F 6E | F=01 | 20 | F=51
    vector_line (0xFD ∷ 0xCB ∷ 0x7F ∷ 0x6E ∷ []) (record usual_3 { f = 0x01 }) cells_3 None (Took 20 ∷ [])
    (λ regs. record regs { r = 0x02; pc = 0x0004; f = 0x51 }) [] ∷
    -- BIT 6,(IY+7FH) | FD CB 7F 76 | F=28 | 20 | F=38
    vector_line (0xFD ∷ 0xCB ∷ 0x7F ∷ 0x76 ∷ []) (record usual_3 { f = 0x28 }) cells_3 None (Took 20 ∷ [])
    (λ regs. record regs { r = 0x02; pc = 0x0004; f = 0x38 }) [] ∷
    -- SET 1,(IY+7FH) | FD CB 7F CE | F=FF | 23 | (4C00)=5A
    vector_line (0xFD ∷ 0xCB ∷ 0x7F ∷ 0xCE ∷ []) (record usual_3 { f = 0xFF }) cells_3 None (Took 23 ∷ [])
    (λ regs. record regs { r = 0x02; pc = 0x0004 }) (Write 0x4C00 0x5A ∷ []) ∷
    -- SET 2,(IY+7FH) | FD CB 7F D6 | F=FF | 23 | (4C00)=5E
    vector_line (0xFD ∷ 0xCB ∷ 0x7F ∷ 0xD6 ∷ []) (record usual_3 { f = 0xFF }) cells_3 None (Took 23 ∷ [])
    (λ regs. record regs { r = 0x02; pc = 0x0004 }) (Write 0x4C00 0x5E ∷ []) ∷
    -- SET 4,(IY+7FH) | FD CB 7F E6 | F=FF | 23 | (4C00)=5A
    vector_line (0xFD ∷ 0xCB ∷ 0x7F ∷ 0xE6 ∷ []) (record usual_3 { f = 0xFF }) cells_3 None (Took 23 ∷ [])
    (λ regs. record regs { r = 0x02; pc = 0x0004 }) (Write 0x4C00 0x5A ∷ []) ∷
    -- SET 5,(IY+7FH) | FD CB 7F EE | F=FF | 23 | (4C00)=7A
    vector_line (0xFD ∷ 0xCB ∷ 0x7F ∷ 0xEE ∷ []) (record usual_3 { f = 0xFF }) cells_3 None (Took 23 ∷ [])
    (λ regs. record regs { r = 0x02; pc = 0x0004 }) (Write 0x4C00 0x7A ∷ []) ∷
    -- SET 6,(IY+7FH) | FD CB 7F F6 | F=FF | 23 | (4C00)=5A
    vector_line (0xFD ∷ 0xCB ∷ 0x7F ∷ 0xF6 ∷ []) (record usual_3 { f = 0xFF }) cells_3 None (Took 23 ∷ [])
    (λ regs. record regs { r = 0x02; pc = 0x0004 }) (Write 0x4C00 0x5A ∷ []) ∷
    -- RES 1,(IY+7FH) | FD CB 7F 8E | F=FF | 23 | (4C00)=58
    vector_line (0xFD ∷ 0xCB ∷ 0x7F ∷ 0x8E ∷ []) (record usual_3 { f = 0xFF }) cells_3 None (Took 23 ∷ [])
    (λ regs. record regs { r = 0x02; pc = 0x0004 }) (Write 0x4C00 0x58 ∷ []) ∷
    -- RES 2,(IY+7FH) | FD CB 7F 96 | F=FF | 23 | (4C00)=5A
    vector_line (0xFD ∷ 0xCB ∷ 0x7F ∷ 0x96 ∷ []) (record usual_3 { f = 0xFF }) cells_3 None (Took 23 ∷ [])
    (λ regs. record regs { r = 0x02; pc = 0x0004 }) (Write 0x4C00 0x5A ∷ []) ∷
    -- RES 4,(IY+7FH) | FD CB 7F A6 | F=FF | 23 | (4C00)=4A
    vector_line (0xFD ∷ 0xCB ∷ 0x7F ∷ 0xA6 ∷ []) (record usual_3 { f = 0xFF }) cells_3 None (Took 23 ∷ [])
    (λ regs. record regs { r = 0x02; pc = 0x0004 }) (Write 0x4C00 0x4A ∷ []) ∷
    -- RES 5,(IY+7FH) | FD CB 7F AE | F=FF | 23 | (4C00)=5A
    vector_line (0xFD ∷ 0xCB ∷ 0x7F ∷ 0xAE ∷ []) (record usual_3 { f = 0xFF }) cells_3 None (Took 23 ∷ [])
    (λ regs. record regs { r = 0x02; pc = 0x0004 }) (Write 0x4C00 0x5A ∷ []) ∷
    -- RES 6,(IY+7FH) | FD CB 7F B6 | F=FF | 23 | (4C00)=1A
    vector_line (0xFD ∷ 0xCB ∷ 0x7F ∷ 0xB6 ∷ []) (record usual_3 { f = 0xFF }) cells_3 None (Took 23 ∷ [])
    (λ regs. record regs { r = 0x02; pc = 0x0004 }) (Write 0x4C00 0x1A ∷ []) ∷
    []
