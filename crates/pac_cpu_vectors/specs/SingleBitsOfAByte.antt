-- Law: Single bits of a byte (UM0080, "Bit Set, Reset, and Test Group"). Made by tools/make/make-vectors from tools/check/vectors.txt.
use Rattle.std.specs.Prelude.{List, [], ◌∷◌, None}
use Rattle.pac_cpu.specs.Power.{power_on_regs}
use Rattle.pac_cpu_vectors.specs.Vectors.{VectorLine, vector_line, Took}

-- the lines of the table
abbrev pub single_bits_of_a_byte_lines : List VectorLine
single_bits_of_a_byte_lines =
    -- BIT 4,B | CB 60 | B=10 | 8 | F=10
    vector_line (0xCB ∷ 0x60 ∷ []) (record power_on_regs { b = 0x10 }) [] None (Took 8 ∷ [])
    (λ regs. record regs { r = 0x02; pc = 0x0002; f = 0x10 }) [] ∷
    -- BIT 4,B | CB 60 | B=EF | 8 | F=50
    vector_line (0xCB ∷ 0x60 ∷ []) (record power_on_regs { b = 0xEF }) [] None (Took 8 ∷ [])
    (λ regs. record regs { r = 0x02; pc = 0x0002; f = 0x50 }) [] ∷
    -- BIT 7,B | CB 78 | F=FF | 8 | F=FD
    vector_line (0xCB ∷ 0x78 ∷ []) (record power_on_regs { f = 0xFF }) [] None (Took 8 ∷ [])
    (λ regs. record regs { r = 0x02; pc = 0x0002; f = 0xFD }) [] ∷
    -- BIT 7,B | CB 78 | F=FF B=80 | 8 | F=BD
    vector_line (0xCB ∷ 0x78 ∷ []) (record power_on_regs { f = 0xFF; b = 0x80 }) [] None (Took 8 ∷ [])
    (λ regs. record regs { r = 0x02; pc = 0x0002; f = 0xBD }) [] ∷
    -- BIT 0,B | CB 40 | F=42 B=01 | 8 | F=10
    vector_line (0xCB ∷ 0x40 ∷ []) (record power_on_regs { f = 0x42; b = 0x01 }) [] None (Took 8 ∷ [])
    (λ regs. record regs { r = 0x02; pc = 0x0002; f = 0x10 }) [] ∷
    -- SET 4,B | CB E0 | | 8 | B=10
    vector_line (0xCB ∷ 0xE0 ∷ []) power_on_regs [] None (Took 8 ∷ []) (λ regs. record regs { r = 0x02; pc = 0x0002; b = 0x10 }) [] ∷
    -- RES 4,B | CB A0 | | 8 |
    vector_line (0xCB ∷ 0xA0 ∷ []) power_on_regs [] None (Took 8 ∷ []) (λ regs. record regs { r = 0x02; pc = 0x0002 }) [] ∷
    -- SET 4,B | CB E0 | B=10 | 8 |
    vector_line (0xCB ∷ 0xE0 ∷ []) (record power_on_regs { b = 0x10 }) [] None (Took 8 ∷ [])
    (λ regs. record regs { r = 0x02; pc = 0x0002 }) [] ∷
    -- RES 4,B | CB A0 | B=10 | 8 | B=00
    vector_line (0xCB ∷ 0xA0 ∷ []) (record power_on_regs { b = 0x10 }) [] None (Took 8 ∷ [])
    (λ regs. record regs { r = 0x02; pc = 0x0002; b = 0x00 }) [] ∷
    -- SET 7,B | CB F8 | B=7F | 8 | B=FF
    vector_line (0xCB ∷ 0xF8 ∷ []) (record power_on_regs { b = 0x7F }) [] None (Took 8 ∷ [])
    (λ regs. record regs { r = 0x02; pc = 0x0002; b = 0xFF }) [] ∷
    -- RES 7,B | CB B8 | B=7F | 8 |
    vector_line (0xCB ∷ 0xB8 ∷ []) (record power_on_regs { b = 0x7F }) [] None (Took 8 ∷ [])
    (λ regs. record regs { r = 0x02; pc = 0x0002 }) [] ∷
    -- SET 6,B | CB F0 | B=FF | 8 |
    vector_line (0xCB ∷ 0xF0 ∷ []) (record power_on_regs { b = 0xFF }) [] None (Took 8 ∷ [])
    (λ regs. record regs { r = 0x02; pc = 0x0002 }) [] ∷
    -- RES 6,B | CB B0 | B=FF | 8 | B=BF
    vector_line (0xCB ∷ 0xB0 ∷ []) (record power_on_regs { b = 0xFF }) [] None (Took 8 ∷ [])
    (λ regs. record regs { r = 0x02; pc = 0x0002; b = 0xBF }) [] ∷
    -- SET 0,B | CB C0 | B=01 | 8 |
    vector_line (0xCB ∷ 0xC0 ∷ []) (record power_on_regs { b = 0x01 }) [] None (Took 8 ∷ [])
    (λ regs. record regs { r = 0x02; pc = 0x0002 }) [] ∷
    -- RES 0,B | CB 80 | B=01 | 8 | B=00
    vector_line (0xCB ∷ 0x80 ∷ []) (record power_on_regs { b = 0x01 }) [] None (Took 8 ∷ [])
    (λ regs. record regs { r = 0x02; pc = 0x0002; b = 0x00 }) [] ∷
    []
