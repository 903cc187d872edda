-- Law: Conditions (UM0080, "Jump Group"). Made by tools/make/make-vectors from tools/check/vectors.txt.
use Rattle.std.specs.Prelude.{List, [], ◌∷◌, None}
use Rattle.pac_cpu.specs.Power.{power_on_regs}
use Rattle.pac_cpu_vectors.specs.Vectors.{VectorLine, vector_line, Took}

-- the lines of the table
abbrev pub conditions_lines : List VectorLine
conditions_lines =
    -- JP NZ,1520H | C2 20 15 | F=40 | 10 |
    vector_line (0xC2 ∷ 0x20 ∷ 0x15 ∷ []) (record power_on_regs { f = 0x40 }) [] None (Took 10 ∷ [])
    (λ regs. record regs { r = 0x01; pc = 0x0003 }) [] ∷
    -- JP Z,1520H | CA 20 15 | F=40 | 10 | PC=1520
    vector_line (0xCA ∷ 0x20 ∷ 0x15 ∷ []) (record power_on_regs { f = 0x40 }) [] None (Took 10 ∷ [])
    (λ regs. record regs { r = 0x01; pc = 0x1520 }) [] ∷
    -- JP NC,1520H | D2 20 15 | F=40 | 10 | PC=1520
    vector_line (0xD2 ∷ 0x20 ∷ 0x15 ∷ []) (record power_on_regs { f = 0x40 }) [] None (Took 10 ∷ [])
    (λ regs. record regs { r = 0x01; pc = 0x1520 }) [] ∷
    -- JP C,1520H | DA 20 15 | F=40 | 10 |
    vector_line (0xDA ∷ 0x20 ∷ 0x15 ∷ []) (record power_on_regs { f = 0x40 }) [] None (Took 10 ∷ [])
    (λ regs. record regs { r = 0x01; pc = 0x0003 }) [] ∷
    -- JP PO,1520H | E2 20 15 | F=40 | 10 | PC=1520
    vector_line (0xE2 ∷ 0x20 ∷ 0x15 ∷ []) (record power_on_regs { f = 0x40 }) [] None (Took 10 ∷ [])
    (λ regs. record regs { r = 0x01; pc = 0x1520 }) [] ∷
    -- JP PE,1520H | EA 20 15 | F=40 | 10 |
    vector_line (0xEA ∷ 0x20 ∷ 0x15 ∷ []) (record power_on_regs { f = 0x40 }) [] None (Took 10 ∷ [])
    (λ regs. record regs { r = 0x01; pc = 0x0003 }) [] ∷
    -- JP P,1520H | F2 20 15 | F=40 | 10 | PC=1520
    vector_line (0xF2 ∷ 0x20 ∷ 0x15 ∷ []) (record power_on_regs { f = 0x40 }) [] None (Took 10 ∷ [])
    (λ regs. record regs { r = 0x01; pc = 0x1520 }) [] ∷
    -- JP M,1520H | FA 20 15 | F=40 | 10 |
    vector_line (0xFA ∷ 0x20 ∷ 0x15 ∷ []) (record power_on_regs { f = 0x40 }) [] None (Took 10 ∷ [])
    (λ regs. record regs { r = 0x01; pc = 0x0003 }) [] ∷
    -- JP NZ,1520H | C2 20 15 | F=85 | 10 | PC=1520
    vector_line (0xC2 ∷ 0x20 ∷ 0x15 ∷ []) (record power_on_regs { f = 0x85 }) [] None (Took 10 ∷ [])
    (λ regs. record regs { r = 0x01; pc = 0x1520 }) [] ∷
    -- JP Z,1520H | CA 20 15 | F=85 | 10 |
    vector_line (0xCA ∷ 0x20 ∷ 0x15 ∷ []) (record power_on_regs { f = 0x85 }) [] None (Took 10 ∷ [])
    (λ regs. record regs { r = 0x01; pc = 0x0003 }) [] ∷
    -- JP NC,1520H | D2 20 15 | F=85 | 10 |
    vector_line (0xD2 ∷ 0x20 ∷ 0x15 ∷ []) (record power_on_regs { f = 0x85 }) [] None (Took 10 ∷ [])
    (λ regs. record regs { r = 0x01; pc = 0x0003 }) [] ∷
    -- JP C,1520H | DA 20 15 | F=85 | 10 | PC=1520
    vector_line (0xDA ∷ 0x20 ∷ 0x15 ∷ []) (record power_on_regs { f = 0x85 }) [] None (Took 10 ∷ [])
    (λ regs. record regs { r = 0x01; pc = 0x1520 }) [] ∷
    -- JP PO,1520H | E2 20 15 | F=85 | 10 |
    vector_line (0xE2 ∷ 0x20 ∷ 0x15 ∷ []) (record power_on_regs { f = 0x85 }) [] None (Took 10 ∷ [])
    (λ regs. record regs { r = 0x01; pc = 0x0003 }) [] ∷
    -- JP PE,1520H | EA 20 15 | F=85 | 10 | PC=1520
    vector_line (0xEA ∷ 0x20 ∷ 0x15 ∷ []) (record power_on_regs { f = 0x85 }) [] None (Took 10 ∷ [])
    (λ regs. record regs { r = 0x01; pc = 0x1520 }) [] ∷
    -- JP P,1520H | F2 20 15 | F=85 | 10 |
    vector_line (0xF2 ∷ 0x20 ∷ 0x15 ∷ []) (record power_on_regs { f = 0x85 }) [] None (Took 10 ∷ [])
    (λ regs. record regs { r = 0x01; pc = 0x0003 }) [] ∷
    -- JP M,1520H | FA 20 15 | F=85 | 10 | PC=1520
    vector_line (0xFA ∷ 0x20 ∷ 0x15 ∷ []) (record power_on_regs { f = 0x85 }) [] None (Took 10 ∷ [])
    (λ regs. record regs { r = 0x01; pc = 0x1520 }) [] ∷
    []
