-- Law: The accumulator and F (UM0080, "General-Purpose Arithmetic and CPU Control Groups"). Made by tools/make/make-vectors from
-- tools/check/vectors.txt.
use Rattle.std.specs.Prelude.{List, [], ◌∷◌, None}
use Rattle.pac_bus.specs.Action.{Write}
use Rattle.pac_cpu.specs.Power.{power_on_regs}
use Rattle.pac_cpu_vectors.specs.Vectors.{VectorLine, vector_line, Took}

-- the lines of the table
abbrev pub the_accumulator_and_f_lines : List VectorLine
the_accumulator_and_f_lines =
    -- OR A | B7 | A=28 | 4 | F=04
    vector_line (0xB7 ∷ []) (record power_on_regs { a = 0x28 }) [] None (Took 4 ∷ [])
    (λ regs. record regs { r = 0x01; pc = 0x0001; f = 0x04 }) [] ∷
    -- NEG | ED 44 | A=80 | 8 | F=87
    vector_line (0xED ∷ 0x44 ∷ []) (record power_on_regs { a = 0x80 }) [] None (Took 8 ∷ [])
    (λ regs. record regs { r = 0x02; pc = 0x0002; f = 0x87 }) [] ∷
    -- NEG | ED 44 | F=01 | 8 | F=42
    vector_line (0xED ∷ 0x44 ∷ []) (record power_on_regs { f = 0x01 }) [] None (Took 8 ∷ [])
    (λ regs. record regs { r = 0x02; pc = 0x0002; f = 0x42 }) [] ∷
    -- NEG | ED 44 | A=01 F=FF | 8 | A=FF F=BB
    vector_line (0xED ∷ 0x44 ∷ []) (record power_on_regs { a = 0x01; f = 0xFF }) [] None (Took 8 ∷ [])
    (λ regs. record regs { r = 0x02; pc = 0x0002; a = 0xFF; f = 0xBB }) [] ∷
    -- CPL | 2F | A=B4 | 4 | A=4B F=12
    vector_line (0x2F ∷ []) (record power_on_regs { a = 0xB4 }) [] None (Took 4 ∷ [])
    (λ regs. record regs { r = 0x01; pc = 0x0001; a = 0x4B; f = 0x12 }) [] ∷
    -- CPL | 2F | A=B4 F=FF | 4 | A=4B
    vector_line (0x2F ∷ []) (record power_on_regs { a = 0xB4; f = 0xFF }) [] None (Took 4 ∷ [])
    (λ regs. record regs { r = 0x01; pc = 0x0001; a = 0x4B }) [] ∷
    -- SCF | 37 | A=12 | 4 | F=01
    vector_line (0x37 ∷ []) (record power_on_regs { a = 0x12 }) [] None (Took 4 ∷ [])
    (λ regs. record regs { r = 0x01; pc = 0x0001; f = 0x01 }) [] ∷
    -- SCF | 37 | A=12 F=FF | 4 | F=ED
    vector_line (0x37 ∷ []) (record power_on_regs { a = 0x12; f = 0xFF }) [] None (Took 4 ∷ [])
    (λ regs. record regs { r = 0x01; pc = 0x0001; f = 0xED }) [] ∷
    -- CCF | 3F | A=12 F=01 | 4 | F=10
    vector_line (0x3F ∷ []) (record power_on_regs { a = 0x12; f = 0x01 }) [] None (Took 4 ∷ [])
    (λ regs. record regs { r = 0x01; pc = 0x0001; f = 0x10 }) [] ∷
    -- CCF | 3F | A=12 | 4 | F=01
    vector_line (0x3F ∷ []) (record power_on_regs { a = 0x12 }) [] None (Took 4 ∷ [])
    (λ regs. record regs { r = 0x01; pc = 0x0001; f = 0x01 }) [] ∷
    -- CCF | 3F | A=12 F=FF | 4 | F=FC
    vector_line (0x3F ∷ []) (record power_on_regs { a = 0x12; f = 0xFF }) [] None (Took 4 ∷ [])
    (λ regs. record regs { r = 0x01; pc = 0x0001; f = 0xFC }) [] ∷
    -- DAA | 27 | A=9A | 4 | A=00 F=55
    vector_line (0x27 ∷ []) (record power_on_regs { a = 0x9A }) [] None (Took 4 ∷ [])
    (λ regs. record regs { r = 0x01; pc = 0x0001; a = 0x00; f = 0x55 }) [] ∷
    -- DAA | 27 | A=3C | 4 | A=42 F=14
    vector_line (0x27 ∷ []) (record power_on_regs { a = 0x3C }) [] None (Took 4 ∷ [])
    (λ regs. record regs { r = 0x01; pc = 0x0001; a = 0x42; f = 0x14 }) [] ∷
    -- DAA | 27 | A=1B F=12 | 4 | A=15 F=02
    vector_line (0x27 ∷ []) (record power_on_regs { a = 0x1B; f = 0x12 }) [] None (Took 4 ∷ [])
    (λ regs. record regs { r = 0x01; pc = 0x0001; a = 0x15; f = 0x02 }) [] ∷
    -- DAA | 27 | A=11 F=01 | 4 | A=71 F=05
    vector_line (0x27 ∷ []) (record power_on_regs { a = 0x11; f = 0x01 }) [] None (Took 4 ∷ [])
    (λ regs. record regs { r = 0x01; pc = 0x0001; a = 0x71; f = 0x05 }) [] ∷
    -- LD A,15H | 3E 15 | | 7 | A=15
    vector_line (0x3E ∷ 0x15 ∷ []) power_on_regs [] None (Took 7 ∷ []) (λ regs. record regs { r = 0x01; pc = 0x0002; a = 0x15 }) [] ∷
    -- ADD A,27H | C6 27 | A=15 | 7 | A=3C
    vector_line (0xC6 ∷ 0x27 ∷ []) (record power_on_regs { a = 0x15 }) [] None (Took 7 ∷ [])
    (λ regs. record regs { r = 0x01; pc = 0x0002; a = 0x3C }) [] ∷
    -- DAA | 27 | A=3C | 4 | A=42 F=14
    vector_line (0x27 ∷ []) (record power_on_regs { a = 0x3C }) [] None (Took 4 ∷ [])
    (λ regs. record regs { r = 0x01; pc = 0x0001; a = 0x42; f = 0x14 }) [] ∷
    -- LD SP,4FF0H | 31 F0 4F | A=42 F=14 | 10 | SP=4FF0
    vector_line (0x31 ∷ 0xF0 ∷ 0x4F ∷ []) (record power_on_regs { a = 0x42; f = 0x14 }) [] None (Took 10 ∷ [])
    (λ regs. record regs { r = 0x01; pc = 0x0003; sp = 0x4FF0 }) [] ∷
    -- PUSH AF | F5 | A=42 F=14 SP=4FF0 | 11 | SP=4FEE (4FEF)=42 (4FEE)=14
    vector_line (0xF5 ∷ []) (record power_on_regs { a = 0x42; f = 0x14; sp = 0x4FF0 }) [] None (Took 11 ∷ [])
    (λ regs. record regs { r = 0x01; pc = 0x0001; sp = 0x4FEE }) (Write 0x4FEF 0x42 ∷ Write 0x4FEE 0x14 ∷ []) ∷
    -- SUB 27H | D6 27 | A=42 | 7 | A=1B F=12
    vector_line (0xD6 ∷ 0x27 ∷ []) (record power_on_regs { a = 0x42 }) [] None (Took 7 ∷ [])
    (λ regs. record regs { r = 0x01; pc = 0x0002; a = 0x1B; f = 0x12 }) [] ∷
    -- DAA | 27 | A=1B F=12 | 4 | A=15 F=02
    vector_line (0x27 ∷ []) (record power_on_regs { a = 0x1B; f = 0x12 }) [] None (Took 4 ∷ [])
    (λ regs. record regs { r = 0x01; pc = 0x0001; a = 0x15; f = 0x02 }) [] ∷
    []
