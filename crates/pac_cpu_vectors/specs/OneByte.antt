-- Law: One byte (UM0080, "8-Bit Arithmetic Group" and "General-Purpose Arithmetic and CPU Control Groups"). Made by tools/make/make-vectors
-- from tools/check/vectors.txt.
use Rattle.std.specs.Prelude.{List, [], ◌∷◌, None}
use Rattle.pac_cpu.specs.Power.{power_on_regs}
use Rattle.pac_cpu_vectors.specs.Vectors.{VectorLine, vector_line, Took}

-- the lines of the table
abbrev pub one_byte_lines : List VectorLine
one_byte_lines =
    -- INC A | 3C | A=7F | 4 | A=80 F=94
    vector_line (0x3C ∷ []) (record power_on_regs { a = 0x7F }) [] None (Took 4 ∷ [])
    (λ regs. record regs { r = 0x01; pc = 0x0001; a = 0x80; f = 0x94 }) [] ∷
    -- INC A | 3C | A=FF F=01 | 4 | A=00 F=51
    vector_line (0x3C ∷ []) (record power_on_regs { a = 0xFF; f = 0x01 }) [] None (Took 4 ∷ [])
    (λ regs. record regs { r = 0x01; pc = 0x0001; a = 0x00; f = 0x51 }) [] ∷
    -- INC A | 3C | A=0F F=02 | 4 | A=10 F=10
    vector_line (0x3C ∷ []) (record power_on_regs { a = 0x0F; f = 0x02 }) [] None (Took 4 ∷ [])
    (λ regs. record regs { r = 0x01; pc = 0x0001; a = 0x10; f = 0x10 }) [] ∷
    -- INC A | 3C | F=FF | 4 | A=01 F=29
    vector_line (0x3C ∷ []) (record power_on_regs { f = 0xFF }) [] None (Took 4 ∷ [])
    (λ regs. record regs { r = 0x01; pc = 0x0001; a = 0x01; f = 0x29 }) [] ∷
    -- DEC A | 3D | | 4 | A=FF F=92
    vector_line (0x3D ∷ []) power_on_regs [] None (Took 4 ∷ []) (λ regs. record regs { r = 0x01; pc = 0x0001; a = 0xFF; f = 0x92 }) [] ∷
    -- DEC A | 3D | A=01 | 4 | A=00 F=42
    vector_line (0x3D ∷ []) (record power_on_regs { a = 0x01 }) [] None (Took 4 ∷ [])
    (λ regs. record regs { r = 0x01; pc = 0x0001; a = 0x00; f = 0x42 }) [] ∷
    -- DEC A | 3D | A=10 F=01 | 4 | A=0F F=13
    vector_line (0x3D ∷ []) (record power_on_regs { a = 0x10; f = 0x01 }) [] None (Took 4 ∷ [])
    (λ regs. record regs { r = 0x01; pc = 0x0001; a = 0x0F; f = 0x13 }) [] ∷
    -- DEC A | 3D | A=03 F=FF | 4 | A=02 F=2B
    vector_line (0x3D ∷ []) (record power_on_regs { a = 0x03; f = 0xFF }) [] None (Took 4 ∷ [])
    (λ regs. record regs { r = 0x01; pc = 0x0001; a = 0x02; f = 0x2B }) [] ∷
    -- NEG | ED 44 | A=01 | 8 | A=FF F=93
    vector_line (0xED ∷ 0x44 ∷ []) (record power_on_regs { a = 0x01 }) [] None (Took 8 ∷ [])
    (λ regs. record regs { r = 0x02; pc = 0x0002; a = 0xFF; f = 0x93 }) [] ∷
    -- NEG | ED 44 | A=10 | 8 | A=F0 F=83
    vector_line (0xED ∷ 0x44 ∷ []) (record power_on_regs { a = 0x10 }) [] None (Took 8 ∷ [])
    (λ regs. record regs { r = 0x02; pc = 0x0002; a = 0xF0; f = 0x83 }) [] ∷
    -- CPL | 2F | F=FF | 4 | A=FF
    vector_line (0x2F ∷ []) (record power_on_regs { f = 0xFF }) [] None (Took 4 ∷ [])
    (λ regs. record regs { r = 0x01; pc = 0x0001; a = 0xFF }) [] ∷
    -- SCF | 37 | A=5A | 4 | F=01
    vector_line (0x37 ∷ []) (record power_on_regs { a = 0x5A }) [] None (Took 4 ∷ [])
    (λ regs. record regs { r = 0x01; pc = 0x0001; f = 0x01 }) [] ∷
    -- SCF | 37 | A=5A F=01 | 4 |
    vector_line (0x37 ∷ []) (record power_on_regs { a = 0x5A; f = 0x01 }) [] None (Took 4 ∷ [])
    (λ regs. record regs { r = 0x01; pc = 0x0001 }) [] ∷
    -- SCF | 37 | A=5A F=13 | 4 | F=01
    vector_line (0x37 ∷ []) (record power_on_regs { a = 0x5A; f = 0x13 }) [] None (Took 4 ∷ [])
    (λ regs. record regs { r = 0x01; pc = 0x0001; f = 0x01 }) [] ∷
    -- SCF | 37 | A=5A F=FF | 4 | F=ED
    vector_line (0x37 ∷ []) (record power_on_regs { a = 0x5A; f = 0xFF }) [] None (Took 4 ∷ [])
    (λ regs. record regs { r = 0x01; pc = 0x0001; f = 0xED }) [] ∷
    -- CCF | 3F | A=5A | 4 | F=01
    vector_line (0x3F ∷ []) (record power_on_regs { a = 0x5A }) [] None (Took 4 ∷ [])
    (λ regs. record regs { r = 0x01; pc = 0x0001; f = 0x01 }) [] ∷
    -- CCF | 3F | A=5A F=01 | 4 | F=10
    vector_line (0x3F ∷ []) (record power_on_regs { a = 0x5A; f = 0x01 }) [] None (Took 4 ∷ [])
    (λ regs. record regs { r = 0x01; pc = 0x0001; f = 0x10 }) [] ∷
    -- CCF | 3F | A=5A F=13 | 4 | F=10
    vector_line (0x3F ∷ []) (record power_on_regs { a = 0x5A; f = 0x13 }) [] None (Took 4 ∷ [])
    (λ regs. record regs { r = 0x01; pc = 0x0001; f = 0x10 }) [] ∷
    -- CCF | 3F | A=5A F=FF | 4 | F=FC
    vector_line (0x3F ∷ []) (record power_on_regs { a = 0x5A; f = 0xFF }) [] None (Took 4 ∷ [])
    (λ regs. record regs { r = 0x01; pc = 0x0001; f = 0xFC }) [] ∷
    -- DAA | 27 | A=99 | 4 | F=84
    vector_line (0x27 ∷ []) (record power_on_regs { a = 0x99 }) [] None (Took 4 ∷ [])
    (λ regs. record regs { r = 0x01; pc = 0x0001; f = 0x84 }) [] ∷
    -- DAA | 27 | F=11 | 4 | A=66 F=05
    vector_line (0x27 ∷ []) (record power_on_regs { f = 0x11 }) [] None (Took 4 ∷ [])
    (λ regs. record regs { r = 0x01; pc = 0x0001; a = 0x66; f = 0x05 }) [] ∷
    -- DAA | 27 | F=13 | 4 | A=9A F=97
    vector_line (0x27 ∷ []) (record power_on_regs { f = 0x13 }) [] None (Took 4 ∷ [])
    (λ regs. record regs { r = 0x01; pc = 0x0001; a = 0x9A; f = 0x97 }) [] ∷
    -- DAA | 27 | A=06 F=12 | 4 | A=00 F=46
    vector_line (0x27 ∷ []) (record power_on_regs { a = 0x06; f = 0x12 }) [] None (Took 4 ∷ [])
    (λ regs. record regs { r = 0x01; pc = 0x0001; a = 0x00; f = 0x46 }) [] ∷
    -- DAA | 27 | A=0A F=02 | 4 | A=04
    vector_line (0x27 ∷ []) (record power_on_regs { a = 0x0A; f = 0x02 }) [] None (Took 4 ∷ [])
    (λ regs. record regs { r = 0x01; pc = 0x0001; a = 0x04 }) [] ∷
    -- DAA | 27 | A=A0 F=02 | 4 | A=40 F=03
    vector_line (0x27 ∷ []) (record power_on_regs { a = 0xA0; f = 0x02 }) [] None (Took 4 ∷ [])
    (λ regs. record regs { r = 0x01; pc = 0x0001; a = 0x40; f = 0x03 }) [] ∷
    -- DAA | 27 | F=FF | 4 | A=9A F=BF
    vector_line (0x27 ∷ []) (record power_on_regs { f = 0xFF }) [] None (Took 4 ∷ [])
    (λ regs. record regs { r = 0x01; pc = 0x0001; a = 0x9A; f = 0xBF }) [] ∷
    []
