-- Law: Single bits (UM0080, "Bit Set, Reset, and Test Group"). Made by tools/make/make-vectors from tools/check/vectors.txt.
use Rattle.std.specs.Prelude.{List, [], ◌∷◌, None}
use Rattle.pac_bus.specs.Action.{Write}
use Rattle.pac_exec.specs.declared.regs.Regs.{Regs}
use Rattle.pac_cpu.specs.Power.{power_on_regs}
use Rattle.pac_cpu_vectors.specs.Vectors.{VectorLine, vector_line, Took}

abbrev usual_2 : Regs
usual_2 = record power_on_regs { h = 0x4C; ix = 0x4C80; iy = 0x4B81 }

-- the lines of the table
abbrev pub single_bits_lines : List VectorLine
single_bits_lines =
    -- BIT 0,E | CB 43 | E=01 | 8 | F=10
    vector_line (0xCB ∷ 0x43 ∷ []) (record power_on_regs { e = 0x01 }) [] None (Took 8 ∷ [])
    (λ regs. record regs { r = 0x02; pc = 0x0002; f = 0x10 }) [] ∷
    -- BIT 0,E | CB 43 | F=AD E=FE | 8 | F=FD
    vector_line (0xCB ∷ 0x43 ∷ []) (record power_on_regs { f = 0xAD; e = 0xFE }) [] None (Took 8 ∷ [])
    (λ regs. record regs { r = 0x02; pc = 0x0002; f = 0xFD }) [] ∷
    -- RES 0,E | CB 83 | F=FF E=FF | 8 | E=FE
    vector_line (0xCB ∷ 0x83 ∷ []) (record power_on_regs { f = 0xFF; e = 0xFF }) [] None (Took 8 ∷ [])
    (λ regs. record regs { r = 0x02; pc = 0x0002; e = 0xFE }) [] ∷
    -- SET 0,E | CB C3 | | 8 | E=01
    vector_line (0xCB ∷ 0xC3 ∷ []) power_on_regs [] None (Took 8 ∷ []) (λ regs. record regs { r = 0x02; pc = 0x0002; e = 0x01 }) [] ∷
    -- BIT 1,E | CB 4B | E=02 | 8 | F=10
    vector_line (0xCB ∷ 0x4B ∷ []) (record power_on_regs { e = 0x02 }) [] None (Took 8 ∷ [])
    (λ regs. record regs { r = 0x02; pc = 0x0002; f = 0x10 }) [] ∷
    -- BIT 1,E | CB 4B | F=AD E=FD | 8 | F=FD
    vector_line (0xCB ∷ 0x4B ∷ []) (record power_on_regs { f = 0xAD; e = 0xFD }) [] None (Took 8 ∷ [])
    (λ regs. record regs { r = 0x02; pc = 0x0002; f = 0xFD }) [] ∷
    -- RES 1,E | CB 8B | F=FF E=FF | 8 | E=FD
    vector_line (0xCB ∷ 0x8B ∷ []) (record power_on_regs { f = 0xFF; e = 0xFF }) [] None (Took 8 ∷ [])
    (λ regs. record regs { r = 0x02; pc = 0x0002; e = 0xFD }) [] ∷
    -- SET 1,E | CB CB | | 8 | E=02
    vector_line (0xCB ∷ 0xCB ∷ []) power_on_regs [] None (Took 8 ∷ []) (λ regs. record regs { r = 0x02; pc = 0x0002; e = 0x02 }) [] ∷
    -- BIT 2,E | CB 53 | E=04 | 8 | F=10
    vector_line (0xCB ∷ 0x53 ∷ []) (record power_on_regs { e = 0x04 }) [] None (Took 8 ∷ [])
    (λ regs. record regs { r = 0x02; pc = 0x0002; f = 0x10 }) [] ∷
    -- BIT 2,E | CB 53 | F=AD E=FB | 8 | F=FD
    vector_line (0xCB ∷ 0x53 ∷ []) (record power_on_regs { f = 0xAD; e = 0xFB }) [] None (Took 8 ∷ [])
    (λ regs. record regs { r = 0x02; pc = 0x0002; f = 0xFD }) [] ∷
    -- RES 2,E | CB 93 | F=FF E=FF | 8 | E=FB
    vector_line (0xCB ∷ 0x93 ∷ []) (record power_on_regs { f = 0xFF; e = 0xFF }) [] None (Took 8 ∷ [])
    (λ regs. record regs { r = 0x02; pc = 0x0002; e = 0xFB }) [] ∷
    -- SET 2,E | CB D3 | | 8 | E=04
    vector_line (0xCB ∷ 0xD3 ∷ []) power_on_regs [] None (Took 8 ∷ []) (λ regs. record regs { r = 0x02; pc = 0x0002; e = 0x04 }) [] ∷
    -- BIT 3,E | CB 5B | E=08 | 8 | F=10
    vector_line (0xCB ∷ 0x5B ∷ []) (record power_on_regs { e = 0x08 }) [] None (Took 8 ∷ [])
    (λ regs. record regs { r = 0x02; pc = 0x0002; f = 0x10 }) [] ∷
    -- BIT 3,E | CB 5B | F=AD E=F7 | 8 | F=FD
    vector_line (0xCB ∷ 0x5B ∷ []) (record power_on_regs { f = 0xAD; e = 0xF7 }) [] None (Took 8 ∷ [])
    (λ regs. record regs { r = 0x02; pc = 0x0002; f = 0xFD }) [] ∷
    -- RES 3,E | CB 9B | F=FF E=FF | 8 | E=F7
    vector_line (0xCB ∷ 0x9B ∷ []) (record power_on_regs { f = 0xFF; e = 0xFF }) [] None (Took 8 ∷ [])
    (λ regs. record regs { r = 0x02; pc = 0x0002; e = 0xF7 }) [] ∷
    -- SET 3,E | CB DB | | 8 | E=08
    vector_line (0xCB ∷ 0xDB ∷ []) power_on_regs [] None (Took 8 ∷ []) (λ regs. record regs { r = 0x02; pc = 0x0002; e = 0x08 }) [] ∷
    -- BIT 4,E | CB 63 | E=10 | 8 | F=10
    vector_line (0xCB ∷ 0x63 ∷ []) (record power_on_regs { e = 0x10 }) [] None (Took 8 ∷ [])
    (λ regs. record regs { r = 0x02; pc = 0x0002; f = 0x10 }) [] ∷
    -- BIT 4,E | CB 63 | F=AD E=EF | 8 | F=FD
    vector_line (0xCB ∷ 0x63 ∷ []) (record power_on_regs { f = 0xAD; e = 0xEF }) [] None (Took 8 ∷ [])
    (λ regs. record regs { r = 0x02; pc = 0x0002; f = 0xFD }) [] ∷
    -- RES 4,E | CB A3 | F=FF E=FF | 8 | E=EF
    vector_line (0xCB ∷ 0xA3 ∷ []) (record power_on_regs { f = 0xFF; e = 0xFF }) [] None (Took 8 ∷ [])
    (λ regs. record regs { r = 0x02; pc = 0x0002; e = 0xEF }) [] ∷
    -- SET 4,E | CB E3 | | 8 | E=10
    vector_line (0xCB ∷ 0xE3 ∷ []) power_on_regs [] None (Took 8 ∷ []) (λ regs. record regs { r = 0x02; pc = 0x0002; e = 0x10 }) [] ∷
    -- BIT 5,E | CB 6B | E=20 | 8 | F=10
    vector_line (0xCB ∷ 0x6B ∷ []) (record power_on_regs { e = 0x20 }) [] None (Took 8 ∷ [])
    (λ regs. record regs { r = 0x02; pc = 0x0002; f = 0x10 }) [] ∷
    -- BIT 5,E | CB 6B | F=AD E=DF | 8 | F=FD
    vector_line (0xCB ∷ 0x6B ∷ []) (record power_on_regs { f = 0xAD; e = 0xDF }) [] None (Took 8 ∷ [])
    (λ regs. record regs { r = 0x02; pc = 0x0002; f = 0xFD }) [] ∷
    -- RES 5,E | CB AB | F=FF E=FF | 8 | E=DF
    vector_line (0xCB ∷ 0xAB ∷ []) (record power_on_regs { f = 0xFF; e = 0xFF }) [] None (Took 8 ∷ [])
    (λ regs. record regs { r = 0x02; pc = 0x0002; e = 0xDF }) [] ∷
    -- SET 5,E | CB EB | | 8 | E=20
    vector_line (0xCB ∷ 0xEB ∷ []) power_on_regs [] None (Took 8 ∷ []) (λ regs. record regs { r = 0x02; pc = 0x0002; e = 0x20 }) [] ∷
    -- BIT 6,E | CB 73 | E=40 | 8 | F=10
    vector_line (0xCB ∷ 0x73 ∷ []) (record power_on_regs { e = 0x40 }) [] None (Took 8 ∷ [])
    (λ regs. record regs { r = 0x02; pc = 0x0002; f = 0x10 }) [] ∷
    -- BIT 6,E | CB 73 | F=AD E=BF | 8 | F=FD
    vector_line (0xCB ∷ 0x73 ∷ []) (record power_on_regs { f = 0xAD; e = 0xBF }) [] None (Took 8 ∷ [])
    (λ regs. record regs { r = 0x02; pc = 0x0002; f = 0xFD }) [] ∷
    -- RES 6,E | CB B3 | F=FF E=FF | 8 | E=BF
    vector_line (0xCB ∷ 0xB3 ∷ []) (record power_on_regs { f = 0xFF; e = 0xFF }) [] None (Took 8 ∷ [])
    (λ regs. record regs { r = 0x02; pc = 0x0002; e = 0xBF }) [] ∷
    -- SET 6,E | CB F3 | | 8 | E=40
    vector_line (0xCB ∷ 0xF3 ∷ []) power_on_regs [] None (Took 8 ∷ []) (λ regs. record regs { r = 0x02; pc = 0x0002; e = 0x40 }) [] ∷
    -- BIT 7,E | CB 7B | E=80 | 8 | F=10
    vector_line (0xCB ∷ 0x7B ∷ []) (record power_on_regs { e = 0x80 }) [] None (Took 8 ∷ [])
    (λ regs. record regs { r = 0x02; pc = 0x0002; f = 0x10 }) [] ∷
    -- BIT 7,E | CB 7B | F=AD E=7F | 8 | F=FD
    vector_line (0xCB ∷ 0x7B ∷ []) (record power_on_regs { f = 0xAD; e = 0x7F }) [] None (Took 8 ∷ [])
    (λ regs. record regs { r = 0x02; pc = 0x0002; f = 0xFD }) [] ∷
    -- RES 7,E | CB BB | F=FF E=FF | 8 | E=7F
    vector_line (0xCB ∷ 0xBB ∷ []) (record power_on_regs { f = 0xFF; e = 0xFF }) [] None (Took 8 ∷ [])
    (λ regs. record regs { r = 0x02; pc = 0x0002; e = 0x7F }) [] ∷
    -- SET 7,E | CB FB | | 8 | E=80
    vector_line (0xCB ∷ 0xFB ∷ []) power_on_regs [] None (Took 8 ∷ []) (λ regs. record regs { r = 0x02; pc = 0x0002; e = 0x80 }) [] ∷
    -- BIT 0,(HL) | CB 46 | (4C00)=01 | 12 | F=10
    vector_line (0xCB ∷ 0x46 ∷ []) usual_2 (Write 0x4C00 0x01 ∷ []) None (Took 12 ∷ [])
    (λ regs. record regs { r = 0x02; pc = 0x0002; f = 0x10 }) [] ∷
    -- BIT 0,(IX-80H) | DD CB 80 46 | (4C00)=01 | 20 | F=10
    vector_line (0xDD ∷ 0xCB ∷ 0x80 ∷ 0x46 ∷ []) usual_2 (Write 0x4C00 0x01 ∷ []) None (Took 20 ∷ [])
    (λ regs. record regs { r = 0x02; pc = 0x0004; f = 0x10 }) [] ∷
    -- BIT 0,(IY+7FH) | FD CB 7F 46 | (4C00)=01 | 20 | F=10
    vector_line (0xFD ∷ 0xCB ∷ 0x7F ∷ 0x46 ∷ []) usual_2 (Write 0x4C00 0x01 ∷ []) None (Took 20 ∷ [])
    (λ regs. record regs { r = 0x02; pc = 0x0004; f = 0x10 }) [] ∷
    -- BIT 0,(HL) | CB 46 | F=FF (4C00)=FE | 12 | F=FD
    vector_line (0xCB ∷ 0x46 ∷ []) (record usual_2 { f = 0xFF }) (Write 0x4C00 0xFE ∷ []) None (Took 12 ∷ [])
    (λ regs. record regs { r = 0x02; pc = 0x0002; f = 0xFD }) [] ∷
    -- BIT 0,(IX-80H) | DD CB 80 46 | F=FF (4C00)=FE | 20 | F=FD
    vector_line (0xDD ∷ 0xCB ∷ 0x80 ∷ 0x46 ∷ []) (record usual_2 { f = 0xFF }) (Write 0x4C00 0xFE ∷ []) None (Took 20 ∷ [])
    (λ regs. record regs { r = 0x02; pc = 0x0004; f = 0xFD }) [] ∷
    -- BIT 0,(IY+7FH) | FD CB 7F 46 | F=FF (4C00)=FE | 20 | F=FD
    vector_line (0xFD ∷ 0xCB ∷ 0x7F ∷ 0x46 ∷ []) (record usual_2 { f = 0xFF }) (Write 0x4C00 0xFE ∷ []) None (Took 20 ∷ [])
    (λ regs. record regs { r = 0x02; pc = 0x0004; f = 0xFD }) [] ∷
    -- RES 0,(HL) | CB 86 | F=40 (4C00)=FF | 15 | (4C00)=FE
    vector_line (0xCB ∷ 0x86 ∷ []) (record usual_2 { f = 0x40 }) (Write 0x4C00 0xFF ∷ []) None (Took 15 ∷ [])
    (λ regs. record regs { r = 0x02; pc = 0x0002 }) (Write 0x4C00 0xFE ∷ []) ∷
    -- RES 0,(IX-80H) | DD CB 80 86 | F=40 (4C00)=FF | 23 | (4C00)=FE
    vector_line (0xDD ∷ 0xCB ∷ 0x80 ∷ 0x86 ∷ []) (record usual_2 { f = 0x40 }) (Write 0x4C00 0xFF ∷ []) None (Took 23 ∷ [])
    (λ regs. record regs { r = 0x02; pc = 0x0004 }) (Write 0x4C00 0xFE ∷ []) ∷
    -- RES 0,(IY+7FH) | FD CB 7F 86 | F=40 (4C00)=FF | 23 | (4C00)=FE
    vector_line (0xFD ∷ 0xCB ∷ 0x7F ∷ 0x86 ∷ []) (record usual_2 { f = 0x40 }) (Write 0x4C00 0xFF ∷ []) None (Took 23 ∷ [])
    (λ regs. record regs { r = 0x02; pc = 0x0004 }) (Write 0x4C00 0xFE ∷ []) ∷
    -- SET 0,(HL) | CB C6 | F=95 | 15 | (4C00)=01
    vector_line (0xCB ∷ 0xC6 ∷ []) (record usual_2 { f = 0x95 }) [] None (Took 15 ∷ [])
    (λ regs. record regs { r = 0x02; pc = 0x0002 }) (Write 0x4C00 0x01 ∷ []) ∷
    -- SET 0,(IX-80H) | DD CB 80 C6 | F=95 | 23 | (4C00)=01
    vector_line (0xDD ∷ 0xCB ∷ 0x80 ∷ 0xC6 ∷ []) (record usual_2 { f = 0x95 }) [] None (Took 23 ∷ [])
    (λ regs. record regs { r = 0x02; pc = 0x0004 }) (Write 0x4C00 0x01 ∷ []) ∷
    -- SET 0,(IY+7FH) | FD CB 7F C6 | F=95 | 23 | (4C00)=01
    vector_line (0xFD ∷ 0xCB ∷ 0x7F ∷ 0xC6 ∷ []) (record usual_2 { f = 0x95 }) [] None (Took 23 ∷ [])
    (λ regs. record regs { r = 0x02; pc = 0x0004 }) (Write 0x4C00 0x01 ∷ []) ∷
    -- BIT 3,(HL) | CB 5E | (4C00)=08 | 12 | F=10
    vector_line (0xCB ∷ 0x5E ∷ []) usual_2 (Write 0x4C00 0x08 ∷ []) None (Took 12 ∷ [])
    (λ regs. record regs { r = 0x02; pc = 0x0002; f = 0x10 }) [] ∷
    -- BIT 3,(IX-80H) | DD CB 80 5E | (4C00)=08 | 20 | F=10
    vector_line (0xDD ∷ 0xCB ∷ 0x80 ∷ 0x5E ∷ []) usual_2 (Write 0x4C00 0x08 ∷ []) None (Took 20 ∷ [])
    (λ regs. record regs { r = 0x02; pc = 0x0004; f = 0x10 }) [] ∷
    -- BIT 3,(IY+7FH) | FD CB 7F 5E | (4C00)=08 | 20 | F=10
    vector_line (0xFD ∷ 0xCB ∷ 0x7F ∷ 0x5E ∷ []) usual_2 (Write 0x4C00 0x08 ∷ []) None (Took 20 ∷ [])
    (λ regs. record regs { r = 0x02; pc = 0x0004; f = 0x10 }) [] ∷
    -- BIT 3,(HL) | CB 5E | F=FF (4C00)=F7 | 12 | F=FD
    vector_line (0xCB ∷ 0x5E ∷ []) (record usual_2 { f = 0xFF }) (Write 0x4C00 0xF7 ∷ []) None (Took 12 ∷ [])
    (λ regs. record regs { r = 0x02; pc = 0x0002; f = 0xFD }) [] ∷
    -- BIT 3,(IX-80H) | DD CB 80 5E | F=FF (4C00)=F7 | 20 | F=FD
    vector_line (0xDD ∷ 0xCB ∷ 0x80 ∷ 0x5E ∷ []) (record usual_2 { f = 0xFF }) (Write 0x4C00 0xF7 ∷ []) None (Took 20 ∷ [])
    (λ regs. record regs { r = 0x02; pc = 0x0004; f = 0xFD }) [] ∷
    -- BIT 3,(IY+7FH) | FD CB 7F 5E | F=FF (4C00)=F7 | 20 | F=FD
    vector_line (0xFD ∷ 0xCB ∷ 0x7F ∷ 0x5E ∷ []) (record usual_2 { f = 0xFF }) (Write 0x4C00 0xF7 ∷ []) None (Took 20 ∷ [])
    (λ regs. record regs { r = 0x02; pc = 0x0004; f = 0xFD }) [] ∷
    -- RES 3,(HL) | CB 9E | F=40 (4C00)=FF | 15 | (4C00)=F7
    vector_line (0xCB ∷ 0x9E ∷ []) (record usual_2 { f = 0x40 }) (Write 0x4C00 0xFF ∷ []) None (Took 15 ∷ [])
    (λ regs. record regs { r = 0x02; pc = 0x0002 }) (Write 0x4C00 0xF7 ∷ []) ∷
    -- RES 3,(IX-80H) | DD CB 80 9E | F=40 (4C00)=FF | 23 | (4C00)=F7
    vector_line (0xDD ∷ 0xCB ∷ 0x80 ∷ 0x9E ∷ []) (record usual_2 { f = 0x40 }) (Write 0x4C00 0xFF ∷ []) None (Took 23 ∷ [])
    (λ regs. record regs { r = 0x02; pc = 0x0004 }) (Write 0x4C00 0xF7 ∷ []) ∷
    -- RES 3,(IY+7FH) | FD CB 7F 9E | F=40 (4C00)=FF | 23 | (4C00)=F7
    vector_line (0xFD ∷ 0xCB ∷ 0x7F ∷ 0x9E ∷ []) (record usual_2 { f = 0x40 }) (Write 0x4C00 0xFF ∷ []) None (Took 23 ∷ [])
    (λ regs. record regs { r = 0x02; pc = 0x0004 }) (Write 0x4C00 0xF7 ∷ []) ∷
    -- SET 3,(HL) | CB DE | F=95 | 15 | (4C00)=08
    vector_line (0xCB ∷ 0xDE ∷ []) (record usual_2 { f = 0x95 }) [] None (Took 15 ∷ [])
    (λ regs. record regs { r = 0x02; pc = 0x0002 }) (Write 0x4C00 0x08 ∷ []) ∷
    -- SET 3,(IX-80H) | DD CB 80 DE | F=95 | 23 | (4C00)=08
    vector_line (0xDD ∷ 0xCB ∷ 0x80 ∷ 0xDE ∷ []) (record usual_2 { f = 0x95 }) [] None (Took 23 ∷ [])
    (λ regs. record regs { r = 0x02; pc = 0x0004 }) (Write 0x4C00 0x08 ∷ []) ∷
    -- SET 3,(IY+7FH) | FD CB 7F DE | F=95 | 23 | (4C00)=08
    vector_line (0xFD ∷ 0xCB ∷ 0x7F ∷ 0xDE ∷ []) (record usual_2 { f = 0x95 }) [] None (Took 23 ∷ [])
    (λ regs. record regs { r = 0x02; pc = 0x0004 }) (Write 0x4C00 0x08 ∷ []) ∷
    -- BIT 7,(HL) | CB 7E | (4C00)=80 | 12 | F=10
    vector_line (0xCB ∷ 0x7E ∷ []) usual_2 (Write 0x4C00 0x80 ∷ []) None (Took 12 ∷ [])
    (λ regs. record regs { r = 0x02; pc = 0x0002; f = 0x10 }) [] ∷
    -- BIT 7,(IX-80H) | DD CB 80 7E | (4C00)=80 | 20 | F=10
    vector_line (0xDD ∷ 0xCB ∷ 0x80 ∷ 0x7E ∷ []) usual_2 (Write 0x4C00 0x80 ∷ []) None (Took 20 ∷ [])
    (λ regs. record regs { r = 0x02; pc = 0x0004; f = 0x10 }) [] ∷
    -- BIT 7,(IY+7FH) | FD CB 7F 7E | (4C00)=80 | 20 | F=10
    vector_line (0xFD ∷ 0xCB ∷ 0x7F ∷ 0x7E ∷ []) usual_2 (Write 0x4C00 0x80 ∷ []) None (Took 20 ∷ [])
    (λ regs. record regs { r = 0x02; pc = 0x0004; f = 0x10 }) [] ∷
    -- BIT 7,(HL) | CB 7E | F=FF (4C00)=7F | 12 | F=FD
    vector_line (0xCB ∷ 0x7E ∷ []) (record usual_2 { f = 0xFF }) (Write 0x4C00 0x7F ∷ []) None (Took 12 ∷ [])
    (λ regs. record regs { r = 0x02; pc = 0x0002; f = 0xFD }) [] ∷
    -- BIT 7,(IX-80H) | DD CB 80 7E | F=FF (4C00)=7F | 20 | F=FD
    vector_line (0xDD ∷ 0xCB ∷ 0x80 ∷ 0x7E ∷ []) (record usual_2 { f = 0xFF }) (Write 0x4C00 0x7F ∷ []) None (Took 20 ∷ [])
    (λ regs. record regs { r = 0x02; pc = 0x0004; f = 0xFD }) [] ∷
    -- BIT 7,(IY+7FH) | FD CB 7F 7E | F=FF (4C00)=7F | 20 | F=FD
    vector_line (0xFD ∷ 0xCB ∷ 0x7F ∷ 0x7E ∷ []) (record usual_2 { f = 0xFF }) (Write 0x4C00 0x7F ∷ []) None (Took 20 ∷ [])
    (λ regs. record regs { r = 0x02; pc = 0x0004; f = 0xFD }) [] ∷
    -- RES 7,(HL) | CB BE | F=40 (4C00)=FF | 15 | (4C00)=7F
    vector_line (0xCB ∷ 0xBE ∷ []) (record usual_2 { f = 0x40 }) (Write 0x4C00 0xFF ∷ []) None (Took 15 ∷ [])
    (λ regs. record regs { r = 0x02; pc = 0x0002 }) (Write 0x4C00 0x7F ∷ []) ∷
    -- RES 7,(IX-80H) | DD CB 80 BE | F=40 (4C00)=FF | 23 | (4C00)=7F
    vector_line (0xDD ∷ 0xCB ∷ 0x80 ∷ 0xBE ∷ []) (record usual_2 { f = 0x40 }) (Write 0x4C00 0xFF ∷ []) None (Took 23 ∷ [])
    (λ regs. record regs { r = 0x02; pc = 0x0004 }) (Write 0x4C00 0x7F ∷ []) ∷
    -- RES 7,(IY+7FH) | FD CB 7F BE | F=40 (4C00)=FF | 23 | (4C00)=7F
    vector_line (0xFD ∷ 0xCB ∷ 0x7F ∷ 0xBE ∷ []) (record usual_2 { f = 0x40 }) (Write 0x4C00 0xFF ∷ []) None (Took 23 ∷ [])
    (λ regs. record regs { r = 0x02; pc = 0x0004 }) (Write 0x4C00 0x7F ∷ []) ∷
    -- SET 7,(HL) | CB FE | F=95 | 15 | (4C00)=80
    vector_line (0xCB ∷ 0xFE ∷ []) (record usual_2 { f = 0x95 }) [] None (Took 15 ∷ [])
    (λ regs. record regs { r = 0x02; pc = 0x0002 }) (Write 0x4C00 0x80 ∷ []) ∷
    -- SET 7,(IX-80H) | DD CB 80 FE | F=95 | 23 | (4C00)=80
    vector_line (0xDD ∷ 0xCB ∷ 0x80 ∷ 0xFE ∷ []) (record usual_2 { f = 0x95 }) [] None (Took 23 ∷ [])
    (λ regs. record regs { r = 0x02; pc = 0x0004 }) (Write 0x4C00 0x80 ∷ []) ∷
    -- SET 7,(IY+7FH) | FD CB 7F FE | F=95 | 23 | (4C00)=80
    vector_line (0xFD ∷ 0xCB ∷ 0x7F ∷ 0xFE ∷ []) (record usual_2 { f = 0x95 }) [] None (Took 23 ∷ [])
    (λ regs. record regs { r = 0x02; pc = 0x0004 }) (Write 0x4C00 0x80 ∷ []) ∷
    []
