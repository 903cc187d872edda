-- Law: Rotations and shifts (UM0080, "Rotate and Shift Group"). Made by tools/make/make-vectors from tools/check/vectors.txt.
use Rattle.std.specs.Prelude.{List, [], ◌∷◌, None}
use Rattle.pac_bus.specs.Action.{Write}
use Rattle.pac_exec.specs.declared.regs.Regs.{Regs}
use Rattle.pac_cpu.specs.Power.{power_on_regs}
use Rattle.pac_cpu_vectors.specs.Vectors.{VectorLine, vector_line, Took}

abbrev usual_1 : Regs
usual_1 = record power_on_regs { h = 0x4C; ix = 0x4C80; iy = 0x4B81 }

abbrev usual_2 : Regs
usual_2 = record power_on_regs { a = 0x88; b = 0x88; c = 0x88; d = 0x88; e = 0x88; h = 0x88; l = 0x88 }

abbrev usual_4 : Regs
usual_4 = record power_on_regs { h = 0x4D }

-- the lines of the table
abbrev pub rotations_and_shifts_lines : List VectorLine
rotations_and_shifts_lines =
    -- RLC B | CB 00 | B=88 | 8 | F=05 B=11
    vector_line (0xCB ∷ 0x00 ∷ []) (record usual_1 { b = 0x88 }) [] None (Took 8 ∷ [])
    (λ regs. record regs { r = 0x02; pc = 0x0002; f = 0x05; b = 0x11 }) [] ∷
    -- RLC (HL) | CB 06 | B=88 (4C00)=88 | 15 | F=05 (4C00)=11
    vector_line (0xCB ∷ 0x06 ∷ []) (record usual_1 { b = 0x88 }) (Write 0x4C00 0x88 ∷ []) None (Took 15 ∷ [])
    (λ regs. record regs { r = 0x02; pc = 0x0002; f = 0x05 }) (Write 0x4C00 0x11 ∷ []) ∷
    -- RLC (IX-80H) | DD CB 80 06 | B=88 (4C00)=88 | 23 | F=05 (4C00)=11
    vector_line (0xDD ∷ 0xCB ∷ 0x80 ∷ 0x06 ∷ []) (record usual_1 { b = 0x88 }) (Write 0x4C00 0x88 ∷ []) None (Took 23 ∷ [])
    (λ regs. record regs { r = 0x02; pc = 0x0004; f = 0x05 }) (Write 0x4C00 0x11 ∷ []) ∷
    -- RLC (IY+7FH) | FD CB 7F 06 | B=88 (4C00)=88 | 23 | F=05 (4C00)=11
    vector_line (0xFD ∷ 0xCB ∷ 0x7F ∷ 0x06 ∷ []) (record usual_1 { b = 0x88 }) (Write 0x4C00 0x88 ∷ []) None (Took 23 ∷ [])
    (λ regs. record regs { r = 0x02; pc = 0x0004; f = 0x05 }) (Write 0x4C00 0x11 ∷ []) ∷
    -- RLC B | CB 00 | F=01 | 8 | F=44
    vector_line (0xCB ∷ 0x00 ∷ []) (record usual_1 { f = 0x01 }) [] None (Took 8 ∷ [])
    (λ regs. record regs { r = 0x02; pc = 0x0002; f = 0x44 }) [] ∷
    -- RLC (HL) | CB 06 | F=01 | 15 | F=44 (4C00)=00
    vector_line (0xCB ∷ 0x06 ∷ []) (record usual_1 { f = 0x01 }) [] None (Took 15 ∷ [])
    (λ regs. record regs { r = 0x02; pc = 0x0002; f = 0x44 }) (Write 0x4C00 0x00 ∷ []) ∷
    -- RLC (IX-80H) | DD CB 80 06 | F=01 | 23 | F=44 (4C00)=00
    vector_line (0xDD ∷ 0xCB ∷ 0x80 ∷ 0x06 ∷ []) (record usual_1 { f = 0x01 }) [] None (Took 23 ∷ [])
    (λ regs. record regs { r = 0x02; pc = 0x0004; f = 0x44 }) (Write 0x4C00 0x00 ∷ []) ∷
    -- RLC (IY+7FH) | FD CB 7F 06 | F=01 | 23 | F=44 (4C00)=00
    vector_line (0xFD ∷ 0xCB ∷ 0x7F ∷ 0x06 ∷ []) (record usual_1 { f = 0x01 }) [] None (Took 23 ∷ [])
    (λ regs. record regs { r = 0x02; pc = 0x0004; f = 0x44 }) (Write 0x4C00 0x00 ∷ []) ∷
    -- RRC B | CB 08 | B=31 | 8 | F=81 B=98
    vector_line (0xCB ∷ 0x08 ∷ []) (record usual_1 { b = 0x31 }) [] None (Took 8 ∷ [])
    (λ regs. record regs { r = 0x02; pc = 0x0002; f = 0x81; b = 0x98 }) [] ∷
    -- RRC (HL) | CB 0E | B=31 (4C00)=31 | 15 | F=81 (4C00)=98
    vector_line (0xCB ∷ 0x0E ∷ []) (record usual_1 { b = 0x31 }) (Write 0x4C00 0x31 ∷ []) None (Took 15 ∷ [])
    (λ regs. record regs { r = 0x02; pc = 0x0002; f = 0x81 }) (Write 0x4C00 0x98 ∷ []) ∷
    -- RRC (IX-80H) | DD CB 80 0E | B=31 (4C00)=31 | 23 | F=81 (4C00)=98
    vector_line (0xDD ∷ 0xCB ∷ 0x80 ∷ 0x0E ∷ []) (record usual_1 { b = 0x31 }) (Write 0x4C00 0x31 ∷ []) None (Took 23 ∷ [])
    (λ regs. record regs { r = 0x02; pc = 0x0004; f = 0x81 }) (Write 0x4C00 0x98 ∷ []) ∷
    -- RRC (IY+7FH) | FD CB 7F 0E | B=31 (4C00)=31 | 23 | F=81 (4C00)=98
    vector_line (0xFD ∷ 0xCB ∷ 0x7F ∷ 0x0E ∷ []) (record usual_1 { b = 0x31 }) (Write 0x4C00 0x31 ∷ []) None (Took 23 ∷ [])
    (λ regs. record regs { r = 0x02; pc = 0x0004; f = 0x81 }) (Write 0x4C00 0x98 ∷ []) ∷
    -- RRC B | CB 08 | F=01 B=02 | 8 | F=00 B=01
    vector_line (0xCB ∷ 0x08 ∷ []) (record usual_1 { f = 0x01; b = 0x02 }) [] None (Took 8 ∷ [])
    (λ regs. record regs { r = 0x02; pc = 0x0002; f = 0x00; b = 0x01 }) [] ∷
    -- RRC (HL) | CB 0E | F=01 B=02 (4C00)=02 | 15 | F=00 (4C00)=01
    vector_line (0xCB ∷ 0x0E ∷ []) (record usual_1 { f = 0x01; b = 0x02 }) (Write 0x4C00 0x02 ∷ []) None (Took 15 ∷ [])
    (λ regs. record regs { r = 0x02; pc = 0x0002; f = 0x00 }) (Write 0x4C00 0x01 ∷ []) ∷
    -- RRC (IX-80H) | DD CB 80 0E | F=01 B=02 (4C00)=02 | 23 | F=00 (4C00)=01
    vector_line (0xDD ∷ 0xCB ∷ 0x80 ∷ 0x0E ∷ []) (record usual_1 { f = 0x01; b = 0x02 }) (Write 0x4C00 0x02 ∷ []) None (Took 23 ∷ [])
    (λ regs. record regs { r = 0x02; pc = 0x0004; f = 0x00 }) (Write 0x4C00 0x01 ∷ []) ∷
    -- RRC (IY+7FH) | FD CB 7F 0E | F=01 B=02 (4C00)=02 | 23 | F=00 (4C00)=01
    vector_line (0xFD ∷ 0xCB ∷ 0x7F ∷ 0x0E ∷ []) (record usual_1 { f = 0x01; b = 0x02 }) (Write 0x4C00 0x02 ∷ []) None (Took 23 ∷ [])
    (λ regs. record regs { r = 0x02; pc = 0x0004; f = 0x00 }) (Write 0x4C00 0x01 ∷ []) ∷
    -- RL B | CB 10 | B=8F | 8 | F=05 B=1E
    vector_line (0xCB ∷ 0x10 ∷ []) (record usual_1 { b = 0x8F }) [] None (Took 8 ∷ [])
    (λ regs. record regs { r = 0x02; pc = 0x0002; f = 0x05; b = 0x1E }) [] ∷
    -- RL (HL) | CB 16 | B=8F (4C00)=8F | 15 | F=05 (4C00)=1E
    vector_line (0xCB ∷ 0x16 ∷ []) (record usual_1 { b = 0x8F }) (Write 0x4C00 0x8F ∷ []) None (Took 15 ∷ [])
    (λ regs. record regs { r = 0x02; pc = 0x0002; f = 0x05 }) (Write 0x4C00 0x1E ∷ []) ∷
    -- RL (IX-80H) | DD CB 80 16 | B=8F (4C00)=8F | 23 | F=05 (4C00)=1E
    vector_line (0xDD ∷ 0xCB ∷ 0x80 ∷ 0x16 ∷ []) (record usual_1 { b = 0x8F }) (Write 0x4C00 0x8F ∷ []) None (Took 23 ∷ [])
    (λ regs. record regs { r = 0x02; pc = 0x0004; f = 0x05 }) (Write 0x4C00 0x1E ∷ []) ∷
    -- RL (IY+7FH) | FD CB 7F 16 | B=8F (4C00)=8F | 23 | F=05 (4C00)=1E
    vector_line (0xFD ∷ 0xCB ∷ 0x7F ∷ 0x16 ∷ []) (record usual_1 { b = 0x8F }) (Write 0x4C00 0x8F ∷ []) None (Took 23 ∷ [])
    (λ regs. record regs { r = 0x02; pc = 0x0004; f = 0x05 }) (Write 0x4C00 0x1E ∷ []) ∷
    -- RL B | CB 10 | B=80 | 8 | F=45 B=00
    vector_line (0xCB ∷ 0x10 ∷ []) (record usual_1 { b = 0x80 }) [] None (Took 8 ∷ [])
    (λ regs. record regs { r = 0x02; pc = 0x0002; f = 0x45; b = 0x00 }) [] ∷
    -- RL (HL) | CB 16 | B=80 (4C00)=80 | 15 | F=45 (4C00)=00
    vector_line (0xCB ∷ 0x16 ∷ []) (record usual_1 { b = 0x80 }) (Write 0x4C00 0x80 ∷ []) None (Took 15 ∷ [])
    (λ regs. record regs { r = 0x02; pc = 0x0002; f = 0x45 }) (Write 0x4C00 0x00 ∷ []) ∷
    -- RL (IX-80H) | DD CB 80 16 | B=80 (4C00)=80 | 23 | F=45 (4C00)=00
    vector_line (0xDD ∷ 0xCB ∷ 0x80 ∷ 0x16 ∷ []) (record usual_1 { b = 0x80 }) (Write 0x4C00 0x80 ∷ []) None (Took 23 ∷ [])
    (λ regs. record regs { r = 0x02; pc = 0x0004; f = 0x45 }) (Write 0x4C00 0x00 ∷ []) ∷
    -- RL (IY+7FH) | FD CB 7F 16 | B=80 (4C00)=80 | 23 | F=45 (4C00)=00
    vector_line (0xFD ∷ 0xCB ∷ 0x7F ∷ 0x16 ∷ []) (record usual_1 { b = 0x80 }) (Write 0x4C00 0x80 ∷ []) None (Took 23 ∷ [])
    (λ regs. record regs { r = 0x02; pc = 0x0004; f = 0x45 }) (Write 0x4C00 0x00 ∷ []) ∷
    -- RL B | CB 10 | F=01 B=76 | 8 | F=84 B=ED
    vector_line (0xCB ∷ 0x10 ∷ []) (record usual_1 { f = 0x01; b = 0x76 }) [] None (Took 8 ∷ [])
    (λ regs. record regs { r = 0x02; pc = 0x0002; f = 0x84; b = 0xED }) [] ∷
    -- RL (HL) | CB 16 | F=01 B=76 (4C00)=76 | 15 | F=84 (4C00)=ED
    vector_line (0xCB ∷ 0x16 ∷ []) (record usual_1 { f = 0x01; b = 0x76 }) (Write 0x4C00 0x76 ∷ []) None (Took 15 ∷ [])
    (λ regs. record regs { r = 0x02; pc = 0x0002; f = 0x84 }) (Write 0x4C00 0xED ∷ []) ∷
    -- RL (IX-80H) | DD CB 80 16 | F=01 B=76 (4C00)=76 | 23 | F=84 (4C00)=ED
    vector_line (0xDD ∷ 0xCB ∷ 0x80 ∷ 0x16 ∷ []) (record usual_1 { f = 0x01; b = 0x76 }) (Write 0x4C00 0x76 ∷ []) None (Took 23 ∷ [])
    (λ regs. record regs { r = 0x02; pc = 0x0004; f = 0x84 }) (Write 0x4C00 0xED ∷ []) ∷
    -- RL (IY+7FH) | FD CB 7F 16 | F=01 B=76 (4C00)=76 | 23 | F=84 (4C00)=ED
    vector_line (0xFD ∷ 0xCB ∷ 0x7F ∷ 0x16 ∷ []) (record usual_1 { f = 0x01; b = 0x76 }) (Write 0x4C00 0x76 ∷ []) None (Took 23 ∷ [])
    (λ regs. record regs { r = 0x02; pc = 0x0004; f = 0x84 }) (Write 0x4C00 0xED ∷ []) ∷
    -- RR B | CB 18 | B=DD | 8 | F=01 B=6E
    vector_line (0xCB ∷ 0x18 ∷ []) (record usual_1 { b = 0xDD }) [] None (Took 8 ∷ [])
    (λ regs. record regs { r = 0x02; pc = 0x0002; f = 0x01; b = 0x6E }) [] ∷
    -- RR (HL) | CB 1E | B=DD (4C00)=DD | 15 | F=01 (4C00)=6E
    vector_line (0xCB ∷ 0x1E ∷ []) (record usual_1 { b = 0xDD }) (Write 0x4C00 0xDD ∷ []) None (Took 15 ∷ [])
    (λ regs. record regs { r = 0x02; pc = 0x0002; f = 0x01 }) (Write 0x4C00 0x6E ∷ []) ∷
    -- RR (IX-80H) | DD CB 80 1E | B=DD (4C00)=DD | 23 | F=01 (4C00)=6E
    vector_line (0xDD ∷ 0xCB ∷ 0x80 ∷ 0x1E ∷ []) (record usual_1 { b = 0xDD }) (Write 0x4C00 0xDD ∷ []) None (Took 23 ∷ [])
    (λ regs. record regs { r = 0x02; pc = 0x0004; f = 0x01 }) (Write 0x4C00 0x6E ∷ []) ∷
    -- RR (IY+7FH) | FD CB 7F 1E | B=DD (4C00)=DD | 23 | F=01 (4C00)=6E
    vector_line (0xFD ∷ 0xCB ∷ 0x7F ∷ 0x1E ∷ []) (record usual_1 { b = 0xDD }) (Write 0x4C00 0xDD ∷ []) None (Took 23 ∷ [])
    (λ regs. record regs { r = 0x02; pc = 0x0004; f = 0x01 }) (Write 0x4C00 0x6E ∷ []) ∷
    -- RR B | CB 18 | F=01 | 8 | F=80 B=80
    vector_line (0xCB ∷ 0x18 ∷ []) (record usual_1 { f = 0x01 }) [] None (Took 8 ∷ [])
    (λ regs. record regs { r = 0x02; pc = 0x0002; f = 0x80; b = 0x80 }) [] ∷
    -- RR (HL) | CB 1E | F=01 | 15 | F=80 (4C00)=80
    vector_line (0xCB ∷ 0x1E ∷ []) (record usual_1 { f = 0x01 }) [] None (Took 15 ∷ [])
    (λ regs. record regs { r = 0x02; pc = 0x0002; f = 0x80 }) (Write 0x4C00 0x80 ∷ []) ∷
    -- RR (IX-80H) | DD CB 80 1E | F=01 | 23 | F=80 (4C00)=80
    vector_line (0xDD ∷ 0xCB ∷ 0x80 ∷ 0x1E ∷ []) (record usual_1 { f = 0x01 }) [] None (Took 23 ∷ [])
    (λ regs. record regs { r = 0x02; pc = 0x0004; f = 0x80 }) (Write 0x4C00 0x80 ∷ []) ∷
    -- RR (IY+7FH) | FD CB 7F 1E | F=01 | 23 | F=80 (4C00)=80
    vector_line (0xFD ∷ 0xCB ∷ 0x7F ∷ 0x1E ∷ []) (record usual_1 { f = 0x01 }) [] None (Took 23 ∷ [])
    (λ regs. record regs { r = 0x02; pc = 0x0004; f = 0x80 }) (Write 0x4C00 0x80 ∷ []) ∷
    -- SLA B | CB 20 | B=B1 | 8 | F=01 B=62
    vector_line (0xCB ∷ 0x20 ∷ []) (record usual_1 { b = 0xB1 }) [] None (Took 8 ∷ [])
    (λ regs. record regs { r = 0x02; pc = 0x0002; f = 0x01; b = 0x62 }) [] ∷
    -- SLA (HL) | CB 26 | B=B1 (4C00)=B1 | 15 | F=01 (4C00)=62
    vector_line (0xCB ∷ 0x26 ∷ []) (record usual_1 { b = 0xB1 }) (Write 0x4C00 0xB1 ∷ []) None (Took 15 ∷ [])
    (λ regs. record regs { r = 0x02; pc = 0x0002; f = 0x01 }) (Write 0x4C00 0x62 ∷ []) ∷
    -- SLA (IX-80H) | DD CB 80 26 | B=B1 (4C00)=B1 | 23 | F=01 (4C00)=62
    vector_line (0xDD ∷ 0xCB ∷ 0x80 ∷ 0x26 ∷ []) (record usual_1 { b = 0xB1 }) (Write 0x4C00 0xB1 ∷ []) None (Took 23 ∷ [])
    (λ regs. record regs { r = 0x02; pc = 0x0004; f = 0x01 }) (Write 0x4C00 0x62 ∷ []) ∷
    -- SLA (IY+7FH) | FD CB 7F 26 | B=B1 (4C00)=B1 | 23 | F=01 (4C00)=62
    vector_line (0xFD ∷ 0xCB ∷ 0x7F ∷ 0x26 ∷ []) (record usual_1 { b = 0xB1 }) (Write 0x4C00 0xB1 ∷ []) None (Took 23 ∷ [])
    (λ regs. record regs { r = 0x02; pc = 0x0004; f = 0x01 }) (Write 0x4C00 0x62 ∷ []) ∷
    -- SLA B | CB 20 | F=FF B=80 | 8 | F=6D B=00
    vector_line (0xCB ∷ 0x20 ∷ []) (record usual_1 { f = 0xFF; b = 0x80 }) [] None (Took 8 ∷ [])
    (λ regs. record regs { r = 0x02; pc = 0x0002; f = 0x6D; b = 0x00 }) [] ∷
    -- SLA (HL) | CB 26 | F=FF B=80 (4C00)=80 | 15 | F=6D (4C00)=00
    vector_line (0xCB ∷ 0x26 ∷ []) (record usual_1 { f = 0xFF; b = 0x80 }) (Write 0x4C00 0x80 ∷ []) None (Took 15 ∷ [])
    (λ regs. record regs { r = 0x02; pc = 0x0002; f = 0x6D }) (Write 0x4C00 0x00 ∷ []) ∷
    -- SLA (IX-80H) | DD CB 80 26 | F=FF B=80 (4C00)=80 | 23 | F=6D (4C00)=00
    vector_line (0xDD ∷ 0xCB ∷ 0x80 ∷ 0x26 ∷ []) (record usual_1 { f = 0xFF; b = 0x80 }) (Write 0x4C00 0x80 ∷ []) None (Took 23 ∷ [])
    (λ regs. record regs { r = 0x02; pc = 0x0004; f = 0x6D }) (Write 0x4C00 0x00 ∷ []) ∷
    -- SLA (IY+7FH) | FD CB 7F 26 | F=FF B=80 (4C00)=80 | 23 | F=6D (4C00)=00
    vector_line (0xFD ∷ 0xCB ∷ 0x7F ∷ 0x26 ∷ []) (record usual_1 { f = 0xFF; b = 0x80 }) (Write 0x4C00 0x80 ∷ []) None (Took 23 ∷ [])
    (λ regs. record regs { r = 0x02; pc = 0x0004; f = 0x6D }) (Write 0x4C00 0x00 ∷ []) ∷
    -- SRA B | CB 28 | B=B8 | 8 | F=80 B=DC
    vector_line (0xCB ∷ 0x28 ∷ []) (record usual_1 { b = 0xB8 }) [] None (Took 8 ∷ [])
    (λ regs. record regs { r = 0x02; pc = 0x0002; f = 0x80; b = 0xDC }) [] ∷
    -- SRA (HL) | CB 2E | B=B8 (4C00)=B8 | 15 | F=80 (4C00)=DC
    vector_line (0xCB ∷ 0x2E ∷ []) (record usual_1 { b = 0xB8 }) (Write 0x4C00 0xB8 ∷ []) None (Took 15 ∷ [])
    (λ regs. record regs { r = 0x02; pc = 0x0002; f = 0x80 }) (Write 0x4C00 0xDC ∷ []) ∷
    -- SRA (IX-80H) | DD CB 80 2E | B=B8 (4C00)=B8 | 23 | F=80 (4C00)=DC
    vector_line (0xDD ∷ 0xCB ∷ 0x80 ∷ 0x2E ∷ []) (record usual_1 { b = 0xB8 }) (Write 0x4C00 0xB8 ∷ []) None (Took 23 ∷ [])
    (λ regs. record regs { r = 0x02; pc = 0x0004; f = 0x80 }) (Write 0x4C00 0xDC ∷ []) ∷
    -- SRA (IY+7FH) | FD CB 7F 2E | B=B8 (4C00)=B8 | 23 | F=80 (4C00)=DC
    vector_line (0xFD ∷ 0xCB ∷ 0x7F ∷ 0x2E ∷ []) (record usual_1 { b = 0xB8 }) (Write 0x4C00 0xB8 ∷ []) None (Took 23 ∷ [])
    (λ regs. record regs { r = 0x02; pc = 0x0004; f = 0x80 }) (Write 0x4C00 0xDC ∷ []) ∷
    -- SRA B | CB 28 | B=81 | 8 | F=85 B=C0
    vector_line (0xCB ∷ 0x28 ∷ []) (record usual_1 { b = 0x81 }) [] None (Took 8 ∷ [])
    (λ regs. record regs { r = 0x02; pc = 0x0002; f = 0x85; b = 0xC0 }) [] ∷
    -- SRA (HL) | CB 2E | B=81 (4C00)=81 | 15 | F=85 (4C00)=C0
    vector_line (0xCB ∷ 0x2E ∷ []) (record usual_1 { b = 0x81 }) (Write 0x4C00 0x81 ∷ []) None (Took 15 ∷ [])
    (λ regs. record regs { r = 0x02; pc = 0x0002; f = 0x85 }) (Write 0x4C00 0xC0 ∷ []) ∷
    -- SRA (IX-80H) | DD CB 80 2E | B=81 (4C00)=81 | 23 | F=85 (4C00)=C0
    vector_line (0xDD ∷ 0xCB ∷ 0x80 ∷ 0x2E ∷ []) (record usual_1 { b = 0x81 }) (Write 0x4C00 0x81 ∷ []) None (Took 23 ∷ [])
    (λ regs. record regs { r = 0x02; pc = 0x0004; f = 0x85 }) (Write 0x4C00 0xC0 ∷ []) ∷
    -- SRA (IY+7FH) | FD CB 7F 2E | B=81 (4C00)=81 | 23 | F=85 (4C00)=C0
    vector_line (0xFD ∷ 0xCB ∷ 0x7F ∷ 0x2E ∷ []) (record usual_1 { b = 0x81 }) (Write 0x4C00 0x81 ∷ []) None (Took 23 ∷ [])
    (λ regs. record regs { r = 0x02; pc = 0x0004; f = 0x85 }) (Write 0x4C00 0xC0 ∷ []) ∷
    -- SRA B | CB 28 | F=01 B=7E | 8 | F=04 B=3F
    vector_line (0xCB ∷ 0x28 ∷ []) (record usual_1 { f = 0x01; b = 0x7E }) [] None (Took 8 ∷ [])
    (λ regs. record regs { r = 0x02; pc = 0x0002; f = 0x04; b = 0x3F }) [] ∷
    -- SRA (HL) | CB 2E | F=01 B=7E (4C00)=7E | 15 | F=04 (4C00)=3F
    vector_line (0xCB ∷ 0x2E ∷ []) (record usual_1 { f = 0x01; b = 0x7E }) (Write 0x4C00 0x7E ∷ []) None (Took 15 ∷ [])
    (λ regs. record regs { r = 0x02; pc = 0x0002; f = 0x04 }) (Write 0x4C00 0x3F ∷ []) ∷
    -- SRA (IX-80H) | DD CB 80 2E | F=01 B=7E (4C00)=7E | 23 | F=04 (4C00)=3F
    vector_line (0xDD ∷ 0xCB ∷ 0x80 ∷ 0x2E ∷ []) (record usual_1 { f = 0x01; b = 0x7E }) (Write 0x4C00 0x7E ∷ []) None (Took 23 ∷ [])
    (λ regs. record regs { r = 0x02; pc = 0x0004; f = 0x04 }) (Write 0x4C00 0x3F ∷ []) ∷
    -- SRA (IY+7FH) | FD CB 7F 2E | F=01 B=7E (4C00)=7E | 23 | F=04 (4C00)=3F
    vector_line (0xFD ∷ 0xCB ∷ 0x7F ∷ 0x2E ∷ []) (record usual_1 { f = 0x01; b = 0x7E }) (Write 0x4C00 0x7E ∷ []) None (Took 23 ∷ [])
    (λ regs. record regs { r = 0x02; pc = 0x0004; f = 0x04 }) (Write 0x4C00 0x3F ∷ []) ∷
    -- SRL B | CB 38 | B=8F | 8 | F=05 B=47
    vector_line (0xCB ∷ 0x38 ∷ []) (record usual_1 { b = 0x8F }) [] None (Took 8 ∷ [])
    (λ regs. record regs { r = 0x02; pc = 0x0002; f = 0x05; b = 0x47 }) [] ∷
    -- SRL (HL) | CB 3E | B=8F (4C00)=8F | 15 | F=05 (4C00)=47
    vector_line (0xCB ∷ 0x3E ∷ []) (record usual_1 { b = 0x8F }) (Write 0x4C00 0x8F ∷ []) None (Took 15 ∷ [])
    (λ regs. record regs { r = 0x02; pc = 0x0002; f = 0x05 }) (Write 0x4C00 0x47 ∷ []) ∷
    -- SRL (IX-80H) | DD CB 80 3E | B=8F (4C00)=8F | 23 | F=05 (4C00)=47
    vector_line (0xDD ∷ 0xCB ∷ 0x80 ∷ 0x3E ∷ []) (record usual_1 { b = 0x8F }) (Write 0x4C00 0x8F ∷ []) None (Took 23 ∷ [])
    (λ regs. record regs { r = 0x02; pc = 0x0004; f = 0x05 }) (Write 0x4C00 0x47 ∷ []) ∷
    -- SRL (IY+7FH) | FD CB 7F 3E | B=8F (4C00)=8F | 23 | F=05 (4C00)=47
    vector_line (0xFD ∷ 0xCB ∷ 0x7F ∷ 0x3E ∷ []) (record usual_1 { b = 0x8F }) (Write 0x4C00 0x8F ∷ []) None (Took 23 ∷ [])
    (λ regs. record regs { r = 0x02; pc = 0x0004; f = 0x05 }) (Write 0x4C00 0x47 ∷ []) ∷
    -- SRL B | CB 38 | B=01 | 8 | F=45 B=00
    vector_line (0xCB ∷ 0x38 ∷ []) (record usual_1 { b = 0x01 }) [] None (Took 8 ∷ [])
    (λ regs. record regs { r = 0x02; pc = 0x0002; f = 0x45; b = 0x00 }) [] ∷
    -- SRL (HL) | CB 3E | B=01 (4C00)=01 | 15 | F=45 (4C00)=00
    vector_line (0xCB ∷ 0x3E ∷ []) (record usual_1 { b = 0x01 }) (Write 0x4C00 0x01 ∷ []) None (Took 15 ∷ [])
    (λ regs. record regs { r = 0x02; pc = 0x0002; f = 0x45 }) (Write 0x4C00 0x00 ∷ []) ∷
    -- SRL (IX-80H) | DD CB 80 3E | B=01 (4C00)=01 | 23 | F=45 (4C00)=00
    vector_line (0xDD ∷ 0xCB ∷ 0x80 ∷ 0x3E ∷ []) (record usual_1 { b = 0x01 }) (Write 0x4C00 0x01 ∷ []) None (Took 23 ∷ [])
    (λ regs. record regs { r = 0x02; pc = 0x0004; f = 0x45 }) (Write 0x4C00 0x00 ∷ []) ∷
    -- SRL (IY+7FH) | FD CB 7F 3E | B=01 (4C00)=01 | 23 | F=45 (4C00)=00
    vector_line (0xFD ∷ 0xCB ∷ 0x7F ∷ 0x3E ∷ []) (record usual_1 { b = 0x01 }) (Write 0x4C00 0x01 ∷ []) None (Took 23 ∷ [])
    (λ regs. record regs { r = 0x02; pc = 0x0004; f = 0x45 }) (Write 0x4C00 0x00 ∷ []) ∷
    -- SRL B | CB 38 | F=13 B=FE | 8 | F=00 B=7F
    vector_line (0xCB ∷ 0x38 ∷ []) (record usual_1 { f = 0x13; b = 0xFE }) [] None (Took 8 ∷ [])
    (λ regs. record regs { r = 0x02; pc = 0x0002; f = 0x00; b = 0x7F }) [] ∷
    -- SRL (HL) | CB 3E | F=13 B=FE (4C00)=FE | 15 | F=00 (4C00)=7F
    vector_line (0xCB ∷ 0x3E ∷ []) (record usual_1 { f = 0x13; b = 0xFE }) (Write 0x4C00 0xFE ∷ []) None (Took 15 ∷ [])
    (λ regs. record regs { r = 0x02; pc = 0x0002; f = 0x00 }) (Write 0x4C00 0x7F ∷ []) ∷
    -- SRL (IX-80H) | DD CB 80 3E | F=13 B=FE (4C00)=FE | 23 | F=00 (4C00)=7F
    vector_line (0xDD ∷ 0xCB ∷ 0x80 ∷ 0x3E ∷ []) (record usual_1 { f = 0x13; b = 0xFE }) (Write 0x4C00 0xFE ∷ []) None (Took 23 ∷ [])
    (λ regs. record regs { r = 0x02; pc = 0x0004; f = 0x00 }) (Write 0x4C00 0x7F ∷ []) ∷
    -- SRL (IY+7FH) | FD CB 7F 3E | F=13 B=FE (4C00)=FE | 23 | F=00 (4C00)=7F
    vector_line (0xFD ∷ 0xCB ∷ 0x7F ∷ 0x3E ∷ []) (record usual_1 { f = 0x13; b = 0xFE }) (Write 0x4C00 0xFE ∷ []) None (Took 23 ∷ [])
    (λ regs. record regs { r = 0x02; pc = 0x0004; f = 0x00 }) (Write 0x4C00 0x7F ∷ []) ∷
    -- RLC B | CB 00 | | 8 | F=05 B=11
    vector_line (0xCB ∷ 0x00 ∷ []) usual_2 [] None (Took 8 ∷ []) (λ regs. record regs { r = 0x02; pc = 0x0002; f = 0x05; b = 0x11 }) [] ∷
    -- RLC C | CB 01 | | 8 | F=05 C=11
    vector_line (0xCB ∷ 0x01 ∷ []) usual_2 [] None (Took 8 ∷ []) (λ regs. record regs { r = 0x02; pc = 0x0002; f = 0x05; c = 0x11 }) [] ∷
    -- RLC D | CB 02 | | 8 | F=05 D=11
    vector_line (0xCB ∷ 0x02 ∷ []) usual_2 [] None (Took 8 ∷ []) (λ regs. record regs { r = 0x02; pc = 0x0002; f = 0x05; d = 0x11 }) [] ∷
    -- RLC E | CB 03 | | 8 | F=05 E=11
    vector_line (0xCB ∷ 0x03 ∷ []) usual_2 [] None (Took 8 ∷ []) (λ regs. record regs { r = 0x02; pc = 0x0002; f = 0x05; e = 0x11 }) [] ∷
    -- RLC H | CB 04 | | 8 | F=05 H=11
    vector_line (0xCB ∷ 0x04 ∷ []) usual_2 [] None (Took 8 ∷ []) (λ regs. record regs { r = 0x02; pc = 0x0002; f = 0x05; h = 0x11 }) [] ∷
    -- RLC L | CB 05 | | 8 | F=05 L=11
    vector_line (0xCB ∷ 0x05 ∷ []) usual_2 [] None (Took 8 ∷ []) (λ regs. record regs { r = 0x02; pc = 0x0002; f = 0x05; l = 0x11 }) [] ∷
    -- RLC A | CB 07 | | 8 | A=11 F=05
    vector_line (0xCB ∷ 0x07 ∷ []) usual_2 [] None (Took 8 ∷ []) (λ regs. record regs { r = 0x02; pc = 0x0002; a = 0x11; f = 0x05 }) [] ∷
    -- RLCA | 07 | A=88 | 4 | A=11 F=01
    vector_line (0x07 ∷ []) (record power_on_regs { a = 0x88 }) [] None (Took 4 ∷ [])
    (λ regs. record regs { r = 0x01; pc = 0x0001; a = 0x11; f = 0x01 }) [] ∷
    -- RLCA | 07 | F=FF | 4 | F=EC
    vector_line (0x07 ∷ []) (record power_on_regs { f = 0xFF }) [] None (Took 4 ∷ [])
    (λ regs. record regs { r = 0x01; pc = 0x0001; f = 0xEC }) [] ∷
    -- RRCA | 0F | A=11 | 4 | A=88 F=01
    vector_line (0x0F ∷ []) (record power_on_regs { a = 0x11 }) [] None (Took 4 ∷ [])
    (λ regs. record regs { r = 0x01; pc = 0x0001; a = 0x88; f = 0x01 }) [] ∷
    -- RRCA | 0F | A=02 F=13 | 4 | A=01 F=00
    vector_line (0x0F ∷ []) (record power_on_regs { a = 0x02; f = 0x13 }) [] None (Took 4 ∷ [])
    (λ regs. record regs { r = 0x01; pc = 0x0001; a = 0x01; f = 0x00 }) [] ∷
    -- RLA | 17 | A=76 F=01 | 4 | A=ED F=00
    vector_line (0x17 ∷ []) (record power_on_regs { a = 0x76; f = 0x01 }) [] None (Took 4 ∷ [])
    (λ regs. record regs { r = 0x01; pc = 0x0001; a = 0xED; f = 0x00 }) [] ∷
    -- RLA | 17 | A=80 F=C4 | 4 | A=00 F=C5
    vector_line (0x17 ∷ []) (record power_on_regs { a = 0x80; f = 0xC4 }) [] None (Took 4 ∷ [])
    (λ regs. record regs { r = 0x01; pc = 0x0001; a = 0x00; f = 0xC5 }) [] ∷
    -- RRA | 1F | A=E1 | 4 | A=70 F=01
    vector_line (0x1F ∷ []) (record power_on_regs { a = 0xE1 }) [] None (Took 4 ∷ [])
    (λ regs. record regs { r = 0x01; pc = 0x0001; a = 0x70; f = 0x01 }) [] ∷
    -- RRA | 1F | F=FF | 4 | A=80 F=EC
    vector_line (0x1F ∷ []) (record power_on_regs { f = 0xFF }) [] None (Took 4 ∷ [])
    (λ regs. record regs { r = 0x01; pc = 0x0001; a = 0x80; f = 0xEC }) [] ∷
    -- RLD | ED 6F | A=7A F=01 (4D00)=31 | 18 | A=73 (4D00)=1A
    vector_line (0xED ∷ 0x6F ∷ []) (record usual_4 { a = 0x7A; f = 0x01 }) (Write 0x4D00 0x31 ∷ []) None (Took 18 ∷ [])
    (λ regs. record regs { r = 0x02; pc = 0x0002; a = 0x73 }) (Write 0x4D00 0x1A ∷ []) ∷
    -- RLD | ED 6F | A=0F F=FF (4D00)=0F | 18 | A=00 F=6D (4D00)=FF
    vector_line (0xED ∷ 0x6F ∷ []) (record usual_4 { a = 0x0F; f = 0xFF }) (Write 0x4D00 0x0F ∷ []) None (Took 18 ∷ [])
    (λ regs. record regs { r = 0x02; pc = 0x0002; a = 0x00; f = 0x6D }) (Write 0x4D00 0xFF ∷ []) ∷
    -- RRD | ED 67 | A=84 (4D00)=20 | 18 | A=80 F=80 (4D00)=42
    vector_line (0xED ∷ 0x67 ∷ []) (record usual_4 { a = 0x84 }) (Write 0x4D00 0x20 ∷ []) None (Took 18 ∷ [])
    (λ regs. record regs { r = 0x02; pc = 0x0002; a = 0x80; f = 0x80 }) (Write 0x4D00 0x42 ∷ []) ∷
    -- RRD | ED 67 | A=F1 F=13 (4D00)=23 | 18 | A=F3 F=85 (4D00)=12
    vector_line (0xED ∷ 0x67 ∷ []) (record usual_4 { a = 0xF1; f = 0x13 }) (Write 0x4D00 0x23 ∷ []) None (Took 18 ∷ [])
    (λ regs. record regs { r = 0x02; pc = 0x0002; a = 0xF3; f = 0x85 }) (Write 0x4D00 0x12 ∷ []) ∷
    []
