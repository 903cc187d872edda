-- Law: Ports by each register (UM0080, "Input and Output Group"). Made by tools/make/make-vectors from tools/check/vectors.txt.
use Rattle.std.specs.Prelude.{List, [], ◌∷◌, None}
use Rattle.pac_bus.specs.Action.{Output}
use Rattle.pac_exec.specs.declared.regs.Regs.{Regs}
use Rattle.pac_cpu.specs.Power.{power_on_regs}
use Rattle.pac_cpu_vectors.specs.Vectors.{VectorLine, vector_line, Took}

abbrev usual_1 : Regs
usual_1 = record power_on_regs { a = 0x23; b = 0x80; c = 0x00; d = 0x5A; e = 0x00; h = 0x41; l = 0xC6 }

-- the lines of the table
abbrev pub ports_by_each_register_lines : List VectorLine
ports_by_each_register_lines =
    -- IN E,(C) | ED 58 | F=29 | 12 | E=FF F=AD
    vector_line (0xED ∷ 0x58 ∷ []) (record usual_1 { f = 0x29 }) [] None (Took 12 ∷ [])
    (λ regs. record regs { r = 0x02; pc = 0x0002; e = 0xFF; f = 0xAD }) [] ∷
    -- IN H,(C) | ED 60 | F=FF | 12 | H=FF F=AD
    vector_line (0xED ∷ 0x60 ∷ []) (record usual_1 { f = 0xFF }) [] None (Took 12 ∷ [])
    (λ regs. record regs { r = 0x02; pc = 0x0002; h = 0xFF; f = 0xAD }) [] ∷
    -- IN L,(C) | ED 68 | F=D6 | 12 | L=FF F=84
    vector_line (0xED ∷ 0x68 ∷ []) (record usual_1 { f = 0xD6 }) [] None (Took 12 ∷ [])
    (λ regs. record regs { r = 0x02; pc = 0x0002; l = 0xFF; f = 0x84 }) [] ∷
    -- OUT (C),B | ED 41 | F=FF | 12 | [00]=80
    vector_line (0xED ∷ 0x41 ∷ []) (record usual_1 { f = 0xFF }) [] None (Took 12 ∷ [])
    (λ regs. record regs { r = 0x02; pc = 0x0002 }) (Output 0x00 0x80 ∷ []) ∷
    -- OUT (C),E | ED 59 | F=FF | 12 | [00]=00
    vector_line (0xED ∷ 0x59 ∷ []) (record usual_1 { f = 0xFF }) [] None (Took 12 ∷ [])
    (λ regs. record regs { r = 0x02; pc = 0x0002 }) (Output 0x00 0x00 ∷ []) ∷
    -- OUT (C),H | ED 61 | F=FF | 12 | [00]=41
    vector_line (0xED ∷ 0x61 ∷ []) (record usual_1 { f = 0xFF }) [] None (Took 12 ∷ [])
    (λ regs. record regs { r = 0x02; pc = 0x0002 }) (Output 0x00 0x41 ∷ []) ∷
    -- OUT (C),L | ED 69 | F=FF | 12 | [00]=C6
    vector_line (0xED ∷ 0x69 ∷ []) (record usual_1 { f = 0xFF }) [] None (Took 12 ∷ [])
    (λ regs. record regs { r = 0x02; pc = 0x0002 }) (Output 0x00 0xC6 ∷ []) ∷
    -- OUT (C),A | ED 79 | F=FF | 12 | [00]=23
    vector_line (0xED ∷ 0x79 ∷ []) (record usual_1 { f = 0xFF }) [] None (Took 12 ∷ [])
    (λ regs. record regs { r = 0x02; pc = 0x0002 }) (Output 0x00 0x23 ∷ []) ∷
    []
