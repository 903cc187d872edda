-- Law: Shifts and rotations of a byte, and of digits (UM0080, "Rotate and Shift Group"). Made by tools/make/make-vectors from
-- tools/check/vectors.txt.
use Rattle.std.specs.Prelude.{List, [], ◌∷◌, None}
use Rattle.pac_bus.specs.Action.{Write}
use Rattle.pac_cpu.specs.Power.{power_on_regs}
use Rattle.pac_cpu_vectors.specs.Vectors.{VectorLine, vector_line, Took}

-- the lines of the table
abbrev pub shifts_and_rotations_of_a_byte_lines : List VectorLine
shifts_and_rotations_of_a_byte_lines =
    -- RLC B | CB 00 | B=88 | 8 | F=05 B=11
    vector_line (0xCB ∷ 0x00 ∷ []) (record power_on_regs { b = 0x88 }) [] None (Took 8 ∷ [])
    (λ regs. record regs { r = 0x02; pc = 0x0002; f = 0x05; b = 0x11 }) [] ∷
    -- RLC B | CB 00 | F=13 | 8 | F=44
    vector_line (0xCB ∷ 0x00 ∷ []) (record power_on_regs { f = 0x13 }) [] None (Took 8 ∷ [])
    (λ regs. record regs { r = 0x02; pc = 0x0002; f = 0x44 }) [] ∷
    -- RRC B | CB 08 | B=31 | 8 | F=81 B=98
    vector_line (0xCB ∷ 0x08 ∷ []) (record power_on_regs { b = 0x31 }) [] None (Took 8 ∷ [])
    (λ regs. record regs { r = 0x02; pc = 0x0002; f = 0x81; b = 0x98 }) [] ∷
    -- RL B | CB 10 | B=8F | 8 | F=05 B=1E
    vector_line (0xCB ∷ 0x10 ∷ []) (record power_on_regs { b = 0x8F }) [] None (Took 8 ∷ [])
    (λ regs. record regs { r = 0x02; pc = 0x0002; f = 0x05; b = 0x1E }) [] ∷
    -- RL B | CB 10 | F=01 B=8F | 8 | B=1F
    vector_line (0xCB ∷ 0x10 ∷ []) (record power_on_regs { f = 0x01; b = 0x8F }) [] None (Took 8 ∷ [])
    (λ regs. record regs { r = 0x02; pc = 0x0002; b = 0x1F }) [] ∷
    -- RR B | CB 18 | B=DD | 8 | F=01 B=6E
    vector_line (0xCB ∷ 0x18 ∷ []) (record power_on_regs { b = 0xDD }) [] None (Took 8 ∷ [])
    (λ regs. record regs { r = 0x02; pc = 0x0002; f = 0x01; b = 0x6E }) [] ∷
    -- RR B | CB 18 | F=01 B=DD | 8 | F=85 B=EE
    vector_line (0xCB ∷ 0x18 ∷ []) (record power_on_regs { f = 0x01; b = 0xDD }) [] None (Took 8 ∷ [])
    (λ regs. record regs { r = 0x02; pc = 0x0002; f = 0x85; b = 0xEE }) [] ∷
    -- SLA B | CB 20 | F=01 B=B1 | 8 | B=62
    vector_line (0xCB ∷ 0x20 ∷ []) (record power_on_regs { f = 0x01; b = 0xB1 }) [] None (Took 8 ∷ [])
    (λ regs. record regs { r = 0x02; pc = 0x0002; b = 0x62 }) [] ∷
    -- SRA B | CB 28 | F=01 B=B8 | 8 | F=80 B=DC
    vector_line (0xCB ∷ 0x28 ∷ []) (record power_on_regs { f = 0x01; b = 0xB8 }) [] None (Took 8 ∷ [])
    (λ regs. record regs { r = 0x02; pc = 0x0002; f = 0x80; b = 0xDC }) [] ∷
    -- SRL B | CB 38 | F=01 B=8F | 8 | F=05 B=47
    vector_line (0xCB ∷ 0x38 ∷ []) (record power_on_regs { f = 0x01; b = 0x8F }) [] None (Took 8 ∷ [])
    (λ regs. record regs { r = 0x02; pc = 0x0002; f = 0x05; b = 0x47 }) [] ∷
    -- SRL B | CB 38 | F=FF B=01 | 8 | F=6D B=00
    vector_line (0xCB ∷ 0x38 ∷ []) (record power_on_regs { f = 0xFF; b = 0x01 }) [] None (Took 8 ∷ [])
    (λ regs. record regs { r = 0x02; pc = 0x0002; f = 0x6D; b = 0x00 }) [] ∷
    -- RLCA | 07 | A=88 F=FF | 4 | A=11 F=ED
    vector_line (0x07 ∷ []) (record power_on_regs { a = 0x88; f = 0xFF }) [] None (Took 4 ∷ [])
    (λ regs. record regs { r = 0x01; pc = 0x0001; a = 0x11; f = 0xED }) [] ∷
    -- RRA | 1F | F=45 | 4 | A=80 F=44
    vector_line (0x1F ∷ []) (record power_on_regs { f = 0x45 }) [] None (Took 4 ∷ [])
    (λ regs. record regs { r = 0x01; pc = 0x0001; a = 0x80; f = 0x44 }) [] ∷
    -- RLD | ED 6F | A=7A HL=4D00 (4D00)=31 | 18 | A=73 (4D00)=1A
    vector_line (0xED ∷ 0x6F ∷ []) (record power_on_regs { a = 0x7A; h = 0x4D; l = 0x00 }) (Write 0x4D00 0x31 ∷ []) None (Took 18 ∷ [])
    (λ regs. record regs { r = 0x02; pc = 0x0002; a = 0x73 }) (Write 0x4D00 0x1A ∷ []) ∷
    -- RLD | ED 6F | F=FF HL=4D00 (4D00)=05 | 18 | F=6D (4D00)=50
    vector_line (0xED ∷ 0x6F ∷ []) (record power_on_regs { f = 0xFF; h = 0x4D; l = 0x00 }) (Write 0x4D00 0x05 ∷ []) None (Took 18 ∷ [])
    (λ regs. record regs { r = 0x02; pc = 0x0002; f = 0x6D }) (Write 0x4D00 0x50 ∷ []) ∷
    -- RRD | ED 67 | A=84 F=12 HL=4D00 (4D00)=20 | 18 | A=80 F=80 (4D00)=42
    vector_line (0xED ∷ 0x67 ∷ []) (record power_on_regs { a = 0x84; f = 0x12; h = 0x4D; l = 0x00 }) (Write 0x4D00 0x20 ∷ []) None
    (Took 18 ∷ [])
    (λ regs. record regs { r = 0x02; pc = 0x0002; a = 0x80; f = 0x80 }) (Write 0x4D00 0x42 ∷ []) ∷
    -- RRD | ED 67 | A=10 F=01 HL=4D00 (4D00)=05 | 18 | A=15 (4D00)=00
    vector_line (0xED ∷ 0x67 ∷ []) (record power_on_regs { a = 0x10; f = 0x01; h = 0x4D; l = 0x00 }) (Write 0x4D00 0x05 ∷ []) None
    (Took 18 ∷ [])
    (λ regs. record regs { r = 0x02; pc = 0x0002; a = 0x15 }) (Write 0x4D00 0x00 ∷ []) ∷
    []
