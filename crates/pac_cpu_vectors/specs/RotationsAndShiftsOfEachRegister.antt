-- Law: Rotations and shifts of each register (UM0080, "Rotate and Shift Group"). Made by tools/make/make-vectors from
-- tools/check/vectors.txt.
use Rattle.std.specs.Prelude.{List, [], ◌∷◌, None}
use Rattle.pac_exec.specs.declared.regs.Regs.{Regs}
use Rattle.pac_cpu.specs.Power.{power_on_regs}
use Rattle.pac_cpu_vectors.specs.Vectors.{VectorLine, vector_line, Took}

abbrev usual_1 : Regs
usual_1 = record power_on_regs { a = 0x96; b = 0x01; c = 0x80; d = 0x00; e = 0x7F; h = 0xFE; l = 0x55 }

-- the lines of the table
abbrev pub rotations_and_shifts_of_each_register_lines : List VectorLine
rotations_and_shifts_of_each_register_lines =
    -- RRC C | CB 09 | F=29 | 8 | C=40 F=28
    vector_line (0xCB ∷ 0x09 ∷ []) (record usual_1 { f = 0x29 }) [] None (Took 8 ∷ [])
    (λ regs. record regs { r = 0x02; pc = 0x0002; c = 0x40; f = 0x28 }) [] ∷
    -- RRC D | CB 0A | F=FF | 8 | F=6C
    vector_line (0xCB ∷ 0x0A ∷ []) (record usual_1 { f = 0xFF }) [] None (Took 8 ∷ [])
    (λ regs. record regs { r = 0x02; pc = 0x0002; f = 0x6C }) [] ∷
    -- RRC E | CB 0B | F=D6 | 8 | E=BF F=81
    vector_line (0xCB ∷ 0x0B ∷ []) (record usual_1 { f = 0xD6 }) [] None (Took 8 ∷ [])
    (λ regs. record regs { r = 0x02; pc = 0x0002; e = 0xBF; f = 0x81 }) [] ∷
    -- RRC H | CB 0C | | 8 | H=7F
    vector_line (0xCB ∷ 0x0C ∷ []) usual_1 [] None (Took 8 ∷ []) (λ regs. record regs { r = 0x02; pc = 0x0002; h = 0x7F }) [] ∷
    -- RRC L | CB 0D | F=01 | 8 | L=AA F=85
    vector_line (0xCB ∷ 0x0D ∷ []) (record usual_1 { f = 0x01 }) [] None (Took 8 ∷ [])
    (λ regs. record regs { r = 0x02; pc = 0x0002; l = 0xAA; f = 0x85 }) [] ∷
    -- RRC A | CB 0F | F=28 | 8 | A=4B F=2C
    vector_line (0xCB ∷ 0x0F ∷ []) (record usual_1 { f = 0x28 }) [] None (Took 8 ∷ [])
    (λ regs. record regs { r = 0x02; pc = 0x0002; a = 0x4B; f = 0x2C }) [] ∷
    -- RL C | CB 11 | F=29 | 8 | C=01
    vector_line (0xCB ∷ 0x11 ∷ []) (record usual_1 { f = 0x29 }) [] None (Took 8 ∷ [])
    (λ regs. record regs { r = 0x02; pc = 0x0002; c = 0x01 }) [] ∷
    -- RL D | CB 12 | F=FF | 8 | D=01 F=28
    vector_line (0xCB ∷ 0x12 ∷ []) (record usual_1 { f = 0xFF }) [] None (Took 8 ∷ [])
    (λ regs. record regs { r = 0x02; pc = 0x0002; d = 0x01; f = 0x28 }) [] ∷
    -- RL E | CB 13 | F=D6 | 8 | E=FE F=80
    vector_line (0xCB ∷ 0x13 ∷ []) (record usual_1 { f = 0xD6 }) [] None (Took 8 ∷ [])
    (λ regs. record regs { r = 0x02; pc = 0x0002; e = 0xFE; f = 0x80 }) [] ∷
    -- RL H | CB 14 | | 8 | H=FC F=85
    vector_line (0xCB ∷ 0x14 ∷ []) usual_1 [] None (Took 8 ∷ []) (λ regs. record regs { r = 0x02; pc = 0x0002; h = 0xFC; f = 0x85 }) [] ∷
    -- RL L | CB 15 | F=01 | 8 | L=AB F=80
    vector_line (0xCB ∷ 0x15 ∷ []) (record usual_1 { f = 0x01 }) [] None (Took 8 ∷ [])
    (λ regs. record regs { r = 0x02; pc = 0x0002; l = 0xAB; f = 0x80 }) [] ∷
    -- RL A | CB 17 | F=28 | 8 | A=2C F=29
    vector_line (0xCB ∷ 0x17 ∷ []) (record usual_1 { f = 0x28 }) [] None (Took 8 ∷ [])
    (λ regs. record regs { r = 0x02; pc = 0x0002; a = 0x2C; f = 0x29 }) [] ∷
    -- RR C | CB 19 | F=29 | 8 | C=C0 F=AC
    vector_line (0xCB ∷ 0x19 ∷ []) (record usual_1 { f = 0x29 }) [] None (Took 8 ∷ [])
    (λ regs. record regs { r = 0x02; pc = 0x0002; c = 0xC0; f = 0xAC }) [] ∷
    -- RR D | CB 1A | F=FF | 8 | D=80 F=A8
    vector_line (0xCB ∷ 0x1A ∷ []) (record usual_1 { f = 0xFF }) [] None (Took 8 ∷ [])
    (λ regs. record regs { r = 0x02; pc = 0x0002; d = 0x80; f = 0xA8 }) [] ∷
    -- RR E | CB 1B | F=D6 | 8 | E=3F F=05
    vector_line (0xCB ∷ 0x1B ∷ []) (record usual_1 { f = 0xD6 }) [] None (Took 8 ∷ [])
    (λ regs. record regs { r = 0x02; pc = 0x0002; e = 0x3F; f = 0x05 }) [] ∷
    -- RR H | CB 1C | | 8 | H=7F
    vector_line (0xCB ∷ 0x1C ∷ []) usual_1 [] None (Took 8 ∷ []) (λ regs. record regs { r = 0x02; pc = 0x0002; h = 0x7F }) [] ∷
    -- RR L | CB 1D | F=01 | 8 | L=AA F=85
    vector_line (0xCB ∷ 0x1D ∷ []) (record usual_1 { f = 0x01 }) [] None (Took 8 ∷ [])
    (λ regs. record regs { r = 0x02; pc = 0x0002; l = 0xAA; f = 0x85 }) [] ∷
    -- RR A | CB 1F | F=28 | 8 | A=4B F=2C
    vector_line (0xCB ∷ 0x1F ∷ []) (record usual_1 { f = 0x28 }) [] None (Took 8 ∷ [])
    (λ regs. record regs { r = 0x02; pc = 0x0002; a = 0x4B; f = 0x2C }) [] ∷
    -- SLA C | CB 21 | F=29 | 8 | C=00 F=6D
    vector_line (0xCB ∷ 0x21 ∷ []) (record usual_1 { f = 0x29 }) [] None (Took 8 ∷ [])
    (λ regs. record regs { r = 0x02; pc = 0x0002; c = 0x00; f = 0x6D }) [] ∷
    -- SLA D | CB 22 | F=FF | 8 | F=6C
    vector_line (0xCB ∷ 0x22 ∷ []) (record usual_1 { f = 0xFF }) [] None (Took 8 ∷ [])
    (λ regs. record regs { r = 0x02; pc = 0x0002; f = 0x6C }) [] ∷
    -- SLA E | CB 23 | F=D6 | 8 | E=FE F=80
    vector_line (0xCB ∷ 0x23 ∷ []) (record usual_1 { f = 0xD6 }) [] None (Took 8 ∷ [])
    (λ regs. record regs { r = 0x02; pc = 0x0002; e = 0xFE; f = 0x80 }) [] ∷
    -- SLA H | CB 24 | | 8 | H=FC F=85
    vector_line (0xCB ∷ 0x24 ∷ []) usual_1 [] None (Took 8 ∷ []) (λ regs. record regs { r = 0x02; pc = 0x0002; h = 0xFC; f = 0x85 }) [] ∷
    -- SLA L | CB 25 | F=01 | 8 | L=AA F=84
    vector_line (0xCB ∷ 0x25 ∷ []) (record usual_1 { f = 0x01 }) [] None (Took 8 ∷ [])
    (λ regs. record regs { r = 0x02; pc = 0x0002; l = 0xAA; f = 0x84 }) [] ∷
    -- SLA A | CB 27 | F=28 | 8 | A=2C F=29
    vector_line (0xCB ∷ 0x27 ∷ []) (record usual_1 { f = 0x28 }) [] None (Took 8 ∷ [])
    (λ regs. record regs { r = 0x02; pc = 0x0002; a = 0x2C; f = 0x29 }) [] ∷
    -- SRA C | CB 29 | F=29 | 8 | C=C0 F=AC
    vector_line (0xCB ∷ 0x29 ∷ []) (record usual_1 { f = 0x29 }) [] None (Took 8 ∷ [])
    (λ regs. record regs { r = 0x02; pc = 0x0002; c = 0xC0; f = 0xAC }) [] ∷
    -- SRA D | CB 2A | F=FF | 8 | F=6C
    vector_line (0xCB ∷ 0x2A ∷ []) (record usual_1 { f = 0xFF }) [] None (Took 8 ∷ [])
    (λ regs. record regs { r = 0x02; pc = 0x0002; f = 0x6C }) [] ∷
    -- SRA E | CB 2B | F=D6 | 8 | E=3F F=05
    vector_line (0xCB ∷ 0x2B ∷ []) (record usual_1 { f = 0xD6 }) [] None (Took 8 ∷ [])
    (λ regs. record regs { r = 0x02; pc = 0x0002; e = 0x3F; f = 0x05 }) [] ∷
    -- SRA H | CB 2C | | 8 | H=FF F=84
    vector_line (0xCB ∷ 0x2C ∷ []) usual_1 [] None (Took 8 ∷ []) (λ regs. record regs { r = 0x02; pc = 0x0002; h = 0xFF; f = 0x84 }) [] ∷
    -- SRA L | CB 2D | F=01 | 8 | L=2A
    vector_line (0xCB ∷ 0x2D ∷ []) (record usual_1 { f = 0x01 }) [] None (Took 8 ∷ [])
    (λ regs. record regs { r = 0x02; pc = 0x0002; l = 0x2A }) [] ∷
    -- SRA A | CB 2F | F=28 | 8 | A=CB F=A8
    vector_line (0xCB ∷ 0x2F ∷ []) (record usual_1 { f = 0x28 }) [] None (Took 8 ∷ [])
    (λ regs. record regs { r = 0x02; pc = 0x0002; a = 0xCB; f = 0xA8 }) [] ∷
    -- SRL C | CB 39 | F=29 | 8 | C=40 F=28
    vector_line (0xCB ∷ 0x39 ∷ []) (record usual_1 { f = 0x29 }) [] None (Took 8 ∷ [])
    (λ regs. record regs { r = 0x02; pc = 0x0002; c = 0x40; f = 0x28 }) [] ∷
    -- SRL D | CB 3A | F=FF | 8 | F=6C
    vector_line (0xCB ∷ 0x3A ∷ []) (record usual_1 { f = 0xFF }) [] None (Took 8 ∷ [])
    (λ regs. record regs { r = 0x02; pc = 0x0002; f = 0x6C }) [] ∷
    -- SRL E | CB 3B | F=D6 | 8 | E=3F F=05
    vector_line (0xCB ∷ 0x3B ∷ []) (record usual_1 { f = 0xD6 }) [] None (Took 8 ∷ [])
    (λ regs. record regs { r = 0x02; pc = 0x0002; e = 0x3F; f = 0x05 }) [] ∷
    -- SRL H | CB 3C | | 8 | H=7F
    vector_line (0xCB ∷ 0x3C ∷ []) usual_1 [] None (Took 8 ∷ []) (λ regs. record regs { r = 0x02; pc = 0x0002; h = 0x7F }) [] ∷
    -- SRL L | CB 3D | F=01 | 8 | L=2A
    vector_line (0xCB ∷ 0x3D ∷ []) (record usual_1 { f = 0x01 }) [] None (Took 8 ∷ [])
    (λ regs. record regs { r = 0x02; pc = 0x0002; l = 0x2A }) [] ∷
    -- SRL A | CB 3F | F=28 | 8 | A=4B F=2C
    vector_line (0xCB ∷ 0x3F ∷ []) (record usual_1 { f = 0x28 }) [] None (Took 8 ∷ [])
    (λ regs. record regs { r = 0x02; pc = 0x0002; a = 0x4B; f = 0x2C }) [] ∷
    []
