-- Law: Ports (UM0080, "Input and Output Group"). Made by tools/make/make-vectors from tools/check/vectors.txt.
use Rattle.std.specs.Prelude.{List, [], ◌∷◌, None}
use Rattle.pac_bus.specs.Action.{Output}
use Rattle.pac_exec.specs.declared.regs.Regs.{Regs}
use Rattle.pac_cpu.specs.Power.{power_on_regs}
use Rattle.pac_cpu_vectors.specs.Vectors.{VectorLine, vector_line, Took}

abbrev usual_1 : Regs
usual_1 = record power_on_regs { a = 0x23; b = 0x10; c = 0x07 }

abbrev usual_2 : Regs
usual_2 = record power_on_regs { a = 0x23; f = 0xFF; b = 0x80; c = 0x02; d = 0x5A }

-- the lines of the table
abbrev pub ports_lines : List VectorLine
ports_lines =
    -- IN A,(01H) | DB 01 | F=00 | 11 | A=FF
    vector_line (0xDB ∷ 0x01 ∷ []) (record usual_1 { f = 0x00 }) [] None (Took 11 ∷ [])
    (λ regs. record regs { r = 0x01; pc = 0x0002; a = 0xFF }) [] ∷
    -- IN A,(0FFH) | DB FF | F=FF | 11 | A=FF
    vector_line (0xDB ∷ 0xFF ∷ []) (record usual_1 { f = 0xFF }) [] None (Took 11 ∷ [])
    (λ regs. record regs { r = 0x01; pc = 0x0002; a = 0xFF }) [] ∷
    -- IN D,(C) | ED 50 | F=FF | 12 | F=AD D=FF
    vector_line (0xED ∷ 0x50 ∷ []) (record usual_1 { f = 0xFF }) [] None (Took 12 ∷ [])
    (λ regs. record regs { r = 0x02; pc = 0x0002; f = 0xAD; d = 0xFF }) [] ∷
    -- IN C,(C) | ED 48 | | 12 | F=84 C=FF
    vector_line (0xED ∷ 0x48 ∷ []) usual_1 [] None (Took 12 ∷ []) (λ regs. record regs { r = 0x02; pc = 0x0002; f = 0x84; c = 0xFF }) [] ∷
    -- IN A,(C) | ED 78 | F=12 | 12 | A=FF F=84
    vector_line (0xED ∷ 0x78 ∷ []) (record usual_1 { f = 0x12 }) [] None (Took 12 ∷ [])
    (λ regs. record regs { r = 0x02; pc = 0x0002; a = 0xFF; f = 0x84 }) [] ∷
    -- IN B,(C) | ED 40 | F=FF | 12 | F=AD B=FF
    vector_line (0xED ∷ 0x40 ∷ []) (record usual_1 { f = 0xFF }) [] None (Took 12 ∷ [])
    (λ regs. record regs { r = 0x02; pc = 0x0002; f = 0xAD; b = 0xFF }) [] ∷
    -- OUT (01H),A | D3 01 | [00]=55 | 11 | [01]=23
    vector_line (0xD3 ∷ 0x01 ∷ []) usual_2 [] None (Took 11 ∷ []) (λ regs. record regs { r = 0x01; pc = 0x0002 }) (Output 0x01 0x23 ∷ []) ∷
    -- OUT (00H),A | D3 00 | [00]=55 | 11 | [00]=23
    vector_line (0xD3 ∷ 0x00 ∷ []) usual_2 [] None (Took 11 ∷ []) (λ regs. record regs { r = 0x01; pc = 0x0002 }) (Output 0x00 0x23 ∷ []) ∷
    -- OUT (C),D | ED 51 | C=00 [00]=55 | 12 | [00]=5A
    vector_line (0xED ∷ 0x51 ∷ []) (record usual_2 { c = 0x00 }) [] None (Took 12 ∷ [])
    (λ regs. record regs { r = 0x02; pc = 0x0002 }) (Output 0x00 0x5A ∷ []) ∷
    -- OUT (C),D | ED 51 | [00]=55 | 12 | [02]=5A
    vector_line (0xED ∷ 0x51 ∷ []) usual_2 [] None (Took 12 ∷ []) (λ regs. record regs { r = 0x02; pc = 0x0002 }) (Output 0x02 0x5A ∷ []) ∷
    -- OUT (C),C | ED 49 | C=00 [00]=55 | 12 | [00]=00
    vector_line (0xED ∷ 0x49 ∷ []) (record usual_2 { c = 0x00 }) [] None (Took 12 ∷ [])
    (λ regs. record regs { r = 0x02; pc = 0x0002 }) (Output 0x00 0x00 ∷ []) ∷
    []
