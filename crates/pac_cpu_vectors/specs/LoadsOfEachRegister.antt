-- Law: Loads of each register (UM0080, "8-Bit Load Group"). Made by tools/make/make-vectors from tools/check/vectors.txt.
use Rattle.std.specs.Prelude.{List, [], ◌∷◌, None}
use Rattle.pac_bus.specs.Action.{Action, Write}
use Rattle.pac_exec.specs.declared.regs.Regs.{Regs}
use Rattle.pac_cpu.specs.Power.{power_on_regs}
use Rattle.pac_cpu_vectors.specs.Vectors.{VectorLine, vector_line, Took}

abbrev usual_1 : Regs
usual_1 = record power_on_regs {
  a = 0x0A;
  f = 0xFF;
  b = 0x1B;
  c = 0x2C;
  d = 0x3D;
  e = 0x4E;
  h = 0x42;
  l = 0x5F;
  ix = 0x4380;
  iy = 0x4281;
}

abbrev cells_1 : List Action
cells_1 = Write 0x4300 0x96 ∷ Write 0x425F 0xE1 ∷ []

-- the lines of the table
abbrev pub loads_of_each_register_lines : List VectorLine
loads_of_each_register_lines =
    -- LD B,B | 40 | | 4 |
    vector_line (0x40 ∷ []) usual_1 cells_1 None (Took 4 ∷ []) (λ regs. record regs { r = 0x01; pc = 0x0001 }) [] ∷
    -- LD B,D | 42 | | 4 | B=3D
    vector_line (0x42 ∷ []) usual_1 cells_1 None (Took 4 ∷ []) (λ regs. record regs { r = 0x01; pc = 0x0001; b = 0x3D }) [] ∷
    -- LD B,E | 43 | | 4 | B=4E
    vector_line (0x43 ∷ []) usual_1 cells_1 None (Took 4 ∷ []) (λ regs. record regs { r = 0x01; pc = 0x0001; b = 0x4E }) [] ∷
    -- LD B,H | 44 | | 4 | B=42
    vector_line (0x44 ∷ []) usual_1 cells_1 None (Took 4 ∷ []) (λ regs. record regs { r = 0x01; pc = 0x0001; b = 0x42 }) [] ∷
    -- LD B,L | 45 | | 4 | B=5F
    vector_line (0x45 ∷ []) usual_1 cells_1 None (Took 4 ∷ []) (λ regs. record regs { r = 0x01; pc = 0x0001; b = 0x5F }) [] ∷
    -- LD C,B | 48 | | 4 | C=1B
    vector_line (0x48 ∷ []) usual_1 cells_1 None (Took 4 ∷ []) (λ regs. record regs { r = 0x01; pc = 0x0001; c = 0x1B }) [] ∷
    -- LD C,C | 49 | | 4 |
    vector_line (0x49 ∷ []) usual_1 cells_1 None (Took 4 ∷ []) (λ regs. record regs { r = 0x01; pc = 0x0001 }) [] ∷
    -- LD C,E | 4B | | 4 | C=4E
    vector_line (0x4B ∷ []) usual_1 cells_1 None (Took 4 ∷ []) (λ regs. record regs { r = 0x01; pc = 0x0001; c = 0x4E }) [] ∷
    -- LD C,H | 4C | | 4 | C=42
    vector_line (0x4C ∷ []) usual_1 cells_1 None (Took 4 ∷ []) (λ regs. record regs { r = 0x01; pc = 0x0001; c = 0x42 }) [] ∷
    -- LD C,L | 4D | | 4 | C=5F
    vector_line (0x4D ∷ []) usual_1 cells_1 None (Took 4 ∷ []) (λ regs. record regs { r = 0x01; pc = 0x0001; c = 0x5F }) [] ∷
    -- LD C,A | 4F | | 4 | C=0A
    vector_line (0x4F ∷ []) usual_1 cells_1 None (Took 4 ∷ []) (λ regs. record regs { r = 0x01; pc = 0x0001; c = 0x0A }) [] ∷
    -- LD D,B | 50 | | 4 | D=1B
    vector_line (0x50 ∷ []) usual_1 cells_1 None (Took 4 ∷ []) (λ regs. record regs { r = 0x01; pc = 0x0001; d = 0x1B }) [] ∷
    -- LD D,C | 51 | | 4 | D=2C
    vector_line (0x51 ∷ []) usual_1 cells_1 None (Took 4 ∷ []) (λ regs. record regs { r = 0x01; pc = 0x0001; d = 0x2C }) [] ∷
    -- LD D,D | 52 | | 4 |
    vector_line (0x52 ∷ []) usual_1 cells_1 None (Took 4 ∷ []) (λ regs. record regs { r = 0x01; pc = 0x0001 }) [] ∷
    -- LD D,H | 54 | | 4 | D=42
    vector_line (0x54 ∷ []) usual_1 cells_1 None (Took 4 ∷ []) (λ regs. record regs { r = 0x01; pc = 0x0001; d = 0x42 }) [] ∷
    -- LD D,L | 55 | | 4 | D=5F
    vector_line (0x55 ∷ []) usual_1 cells_1 None (Took 4 ∷ []) (λ regs. record regs { r = 0x01; pc = 0x0001; d = 0x5F }) [] ∷
    -- LD D,A | 57 | | 4 | D=0A
    vector_line (0x57 ∷ []) usual_1 cells_1 None (Took 4 ∷ []) (λ regs. record regs { r = 0x01; pc = 0x0001; d = 0x0A }) [] ∷
    -- LD E,B | 58 | | 4 | E=1B
    vector_line (0x58 ∷ []) usual_1 cells_1 None (Took 4 ∷ []) (λ regs. record regs { r = 0x01; pc = 0x0001; e = 0x1B }) [] ∷
    -- LD E,C | 59 | | 4 | E=2C
    vector_line (0x59 ∷ []) usual_1 cells_1 None (Took 4 ∷ []) (λ regs. record regs { r = 0x01; pc = 0x0001; e = 0x2C }) [] ∷
    -- LD E,D | 5A | | 4 | E=3D
    vector_line (0x5A ∷ []) usual_1 cells_1 None (Took 4 ∷ []) (λ regs. record regs { r = 0x01; pc = 0x0001; e = 0x3D }) [] ∷
    -- LD E,E | 5B | | 4 |
    vector_line (0x5B ∷ []) usual_1 cells_1 None (Took 4 ∷ []) (λ regs. record regs { r = 0x01; pc = 0x0001 }) [] ∷
    -- LD E,L | 5D | | 4 | E=5F
    vector_line (0x5D ∷ []) usual_1 cells_1 None (Took 4 ∷ []) (λ regs. record regs { r = 0x01; pc = 0x0001; e = 0x5F }) [] ∷
    -- LD E,A | 5F | | 4 | E=0A
    vector_line (0x5F ∷ []) usual_1 cells_1 None (Took 4 ∷ []) (λ regs. record regs { r = 0x01; pc = 0x0001; e = 0x0A }) [] ∷
    -- LD H,B | 60 | | 4 | H=1B
    vector_line (0x60 ∷ []) usual_1 cells_1 None (Took 4 ∷ []) (λ regs. record regs { r = 0x01; pc = 0x0001; h = 0x1B }) [] ∷
    -- LD H,C | 61 | | 4 | H=2C
    vector_line (0x61 ∷ []) usual_1 cells_1 None (Took 4 ∷ []) (λ regs. record regs { r = 0x01; pc = 0x0001; h = 0x2C }) [] ∷
    -- LD H,D | 62 | | 4 | H=3D
    vector_line (0x62 ∷ []) usual_1 cells_1 None (Took 4 ∷ []) (λ regs. record regs { r = 0x01; pc = 0x0001; h = 0x3D }) [] ∷
    -- LD H,E | 63 | | 4 | H=4E
    vector_line (0x63 ∷ []) usual_1 cells_1 None (Took 4 ∷ []) (λ regs. record regs { r = 0x01; pc = 0x0001; h = 0x4E }) [] ∷
    -- LD H,H | 64 | | 4 |
    vector_line (0x64 ∷ []) usual_1 cells_1 None (Took 4 ∷ []) (λ regs. record regs { r = 0x01; pc = 0x0001 }) [] ∷
    -- LD H,A | 67 | | 4 | H=0A
    vector_line (0x67 ∷ []) usual_1 cells_1 None (Took 4 ∷ []) (λ regs. record regs { r = 0x01; pc = 0x0001; h = 0x0A }) [] ∷
    -- LD L,B | 68 | | 4 | L=1B
    vector_line (0x68 ∷ []) usual_1 cells_1 None (Took 4 ∷ []) (λ regs. record regs { r = 0x01; pc = 0x0001; l = 0x1B }) [] ∷
    -- LD L,C | 69 | | 4 | L=2C
    vector_line (0x69 ∷ []) usual_1 cells_1 None (Took 4 ∷ []) (λ regs. record regs { r = 0x01; pc = 0x0001; l = 0x2C }) [] ∷
    -- LD L,D | 6A | | 4 | L=3D
    vector_line (0x6A ∷ []) usual_1 cells_1 None (Took 4 ∷ []) (λ regs. record regs { r = 0x01; pc = 0x0001; l = 0x3D }) [] ∷
    -- LD L,E | 6B | | 4 | L=4E
    vector_line (0x6B ∷ []) usual_1 cells_1 None (Took 4 ∷ []) (λ regs. record regs { r = 0x01; pc = 0x0001; l = 0x4E }) [] ∷
    -- LD L,H | 6C | | 4 | L=42
    vector_line (0x6C ∷ []) usual_1 cells_1 None (Took 4 ∷ []) (λ regs. record regs { r = 0x01; pc = 0x0001; l = 0x42 }) [] ∷
    -- LD L,L | 6D | | 4 |
    vector_line (0x6D ∷ []) usual_1 cells_1 None (Took 4 ∷ []) (λ regs. record regs { r = 0x01; pc = 0x0001 }) [] ∷
    -- LD B,(HL) | 46 | | 7 | B=E1
    vector_line (0x46 ∷ []) usual_1 cells_1 None (Took 7 ∷ []) (λ regs. record regs { r = 0x01; pc = 0x0001; b = 0xE1 }) [] ∷
    -- LD C,(HL) | 4E | | 7 | C=E1
    vector_line (0x4E ∷ []) usual_1 cells_1 None (Took 7 ∷ []) (λ regs. record regs { r = 0x01; pc = 0x0001; c = 0xE1 }) [] ∷
    -- LD D,(HL) | 56 | | 7 | D=E1
    vector_line (0x56 ∷ []) usual_1 cells_1 None (Took 7 ∷ []) (λ regs. record regs { r = 0x01; pc = 0x0001; d = 0xE1 }) [] ∷
    -- LD E,(HL) | 5E | | 7 | E=E1
    vector_line (0x5E ∷ []) usual_1 cells_1 None (Took 7 ∷ []) (λ regs. record regs { r = 0x01; pc = 0x0001; e = 0xE1 }) [] ∷
    -- LD L,(HL) | 6E | | 7 | L=E1
    vector_line (0x6E ∷ []) usual_1 cells_1 None (Took 7 ∷ []) (λ regs. record regs { r = 0x01; pc = 0x0001; l = 0xE1 }) [] ∷
    -- LD A,(HL) | 7E | | 7 | A=E1
    vector_line (0x7E ∷ []) usual_1 cells_1 None (Took 7 ∷ []) (λ regs. record regs { r = 0x01; pc = 0x0001; a = 0xE1 }) [] ∷
    -- LD (HL),B | 70 | | 7 | (425F)=1B
    vector_line (0x70 ∷ []) usual_1 cells_1 None (Took 7 ∷ []) (λ regs. record regs { r = 0x01; pc = 0x0001 }) (Write 0x425F 0x1B ∷ []) ∷
    -- LD (HL),C | 71 | | 7 | (425F)=2C
    vector_line (0x71 ∷ []) usual_1 cells_1 None (Took 7 ∷ []) (λ regs. record regs { r = 0x01; pc = 0x0001 }) (Write 0x425F 0x2C ∷ []) ∷
    -- LD (HL),E | 73 | | 7 | (425F)=4E
    vector_line (0x73 ∷ []) usual_1 cells_1 None (Took 7 ∷ []) (λ regs. record regs { r = 0x01; pc = 0x0001 }) (Write 0x425F 0x4E ∷ []) ∷
    -- LD (HL),H | 74 | | 7 | (425F)=42
    vector_line (0x74 ∷ []) usual_1 cells_1 None (Took 7 ∷ []) (λ regs. record regs { r = 0x01; pc = 0x0001 }) (Write 0x425F 0x42 ∷ []) ∷
    -- LD (HL),L | 75 | | 7 | (425F)=5F
    vector_line (0x75 ∷ []) usual_1 cells_1 None (Took 7 ∷ []) (λ regs. record regs { r = 0x01; pc = 0x0001 }) (Write 0x425F 0x5F ∷ []) ∷
    -- LD (HL),A | 77 | | 7 | (425F)=0A
    vector_line (0x77 ∷ []) usual_1 cells_1 None (Took 7 ∷ []) (λ regs. record regs { r = 0x01; pc = 0x0001 }) (Write 0x425F 0x0A ∷ []) ∷
    -- LD B,(IX-80H) | DD 46 80 | | 19 | B=96
    vector_line (0xDD ∷ 0x46 ∷ 0x80 ∷ []) usual_1 cells_1 None (Took 19 ∷ []) (λ regs. record regs { r = 0x02; pc = 0x0003; b = 0x96 }) [] ∷
    -- LD D,(IX-80H) | DD 56 80 | | 19 | D=96
    vector_line (0xDD ∷ 0x56 ∷ 0x80 ∷ []) usual_1 cells_1 None (Took 19 ∷ []) (λ regs. record regs { r = 0x02; pc = 0x0003; d = 0x96 }) [] ∷
    -- LD E,(IX-80H) | DD 5E 80 | | 19 | E=96
    vector_line (0xDD ∷ 0x5E ∷ 0x80 ∷ []) usual_1 cells_1 None (Took 19 ∷ []) (λ regs. record regs { r = 0x02; pc = 0x0003; e = 0x96 }) [] ∷
    -- LD H,(IX-80H) | DD 66 80 | | 19 | H=96
    vector_line (0xDD ∷ 0x66 ∷ 0x80 ∷ []) usual_1 cells_1 None (Took 19 ∷ []) (λ regs. record regs { r = 0x02; pc = 0x0003; h = 0x96 }) [] ∷
    -- LD L,(IX-80H) | DD 6E 80 | | 19 | L=96
    vector_line (0xDD ∷ 0x6E ∷ 0x80 ∷ []) usual_1 cells_1 None (Took 19 ∷ []) (λ regs. record regs { r = 0x02; pc = 0x0003; l = 0x96 }) [] ∷
    -- LD (IX-80H),B | DD 70 80 | | 19 | (4300)=1B
    vector_line (0xDD ∷ 0x70 ∷ 0x80 ∷ []) usual_1 cells_1 None (Took 19 ∷ [])
    (λ regs. record regs { r = 0x02; pc = 0x0003 }) (Write 0x4300 0x1B ∷ []) ∷
    -- LD (IX-80H),C | DD 71 80 | | 19 | (4300)=2C
    vector_line (0xDD ∷ 0x71 ∷ 0x80 ∷ []) usual_1 cells_1 None (Took 19 ∷ [])
    (λ regs. record regs { r = 0x02; pc = 0x0003 }) (Write 0x4300 0x2C ∷ []) ∷
    -- LD (IX-80H),D | DD 72 80 | | 19 | (4300)=3D
    vector_line (0xDD ∷ 0x72 ∷ 0x80 ∷ []) usual_1 cells_1 None (Took 19 ∷ [])
    (λ regs. record regs { r = 0x02; pc = 0x0003 }) (Write 0x4300 0x3D ∷ []) ∷
    -- LD (IX-80H),E | DD 73 80 | | 19 | (4300)=4E
    vector_line (0xDD ∷ 0x73 ∷ 0x80 ∷ []) usual_1 cells_1 None (Took 19 ∷ [])
    (λ regs. record regs { r = 0x02; pc = 0x0003 }) (Write 0x4300 0x4E ∷ []) ∷
    -- LD (IX-80H),H | DD 74 80 | | 19 | (4300)=42
    vector_line (0xDD ∷ 0x74 ∷ 0x80 ∷ []) usual_1 cells_1 None (Took 19 ∷ [])
    (λ regs. record regs { r = 0x02; pc = 0x0003 }) (Write 0x4300 0x42 ∷ []) ∷
    -- LD (IX-80H),L | DD 75 80 | | 19 | (4300)=5F
    vector_line (0xDD ∷ 0x75 ∷ 0x80 ∷ []) usual_1 cells_1 None (Took 19 ∷ [])
    (λ regs. record regs { r = 0x02; pc = 0x0003 }) (Write 0x4300 0x5F ∷ []) ∷
    -- LD B,(IY+7FH) | FD 46 7F | | 19 | B=96
    vector_line (0xFD ∷ 0x46 ∷ 0x7F ∷ []) usual_1 cells_1 None (Took 19 ∷ []) (λ regs. record regs { r = 0x02; pc = 0x0003; b = 0x96 }) [] ∷
    -- LD C,(IY+7FH) | FD 4E 7F | | 19 | C=96
    vector_line (0xFD ∷ 0x4E ∷ 0x7F ∷ []) usual_1 cells_1 None (Took 19 ∷ []) (λ regs. record regs { r = 0x02; pc = 0x0003; c = 0x96 }) [] ∷
    -- LD D,(IY+7FH) | FD 56 7F | | 19 | D=96
    vector_line (0xFD ∷ 0x56 ∷ 0x7F ∷ []) usual_1 cells_1 None (Took 19 ∷ []) (λ regs. record regs { r = 0x02; pc = 0x0003; d = 0x96 }) [] ∷
    -- LD H,(IY+7FH) | FD 66 7F | | 19 | H=96
    vector_line (0xFD ∷ 0x66 ∷ 0x7F ∷ []) usual_1 cells_1 None (Took 19 ∷ []) (λ regs. record regs { r = 0x02; pc = 0x0003; h = 0x96 }) [] ∷
    -- LD L,(IY+7FH) | FD 6E 7F | | 19 | L=96
    vector_line (0xFD ∷ 0x6E ∷ 0x7F ∷ []) usual_1 cells_1 None (Took 19 ∷ []) (λ regs. record regs { r = 0x02; pc = 0x0003; l = 0x96 }) [] ∷
    -- LD A,(IY+7FH) | FD 7E 7F | | 19 | A=96
    vector_line (0xFD ∷ 0x7E ∷ 0x7F ∷ []) usual_1 cells_1 None (Took 19 ∷ []) (λ regs. record regs { r = 0x02; pc = 0x0003; a = 0x96 }) [] ∷
    -- LD (IY+7FH),B | FD 70 7F | | 19 | (4300)=1B
    vector_line (0xFD ∷ 0x70 ∷ 0x7F ∷ []) usual_1 cells_1 None (Took 19 ∷ [])
    (λ regs. record regs { r = 0x02; pc = 0x0003 }) (Write 0x4300 0x1B ∷ []) ∷
    -- LD (IY+7FH),C | FD 71 7F | | 19 | (4300)=2C
    vector_line (0xFD ∷ 0x71 ∷ 0x7F ∷ []) usual_1 cells_1 None (Took 19 ∷ [])
    (λ regs. record regs { r = 0x02; pc = 0x0003 }) (Write 0x4300 0x2C ∷ []) ∷
    -- LD (IY+7FH),D | FD 72 7F | | 19 | (4300)=3D
    vector_line (0xFD ∷ 0x72 ∷ 0x7F ∷ []) usual_1 cells_1 None (Took 19 ∷ [])
    (λ regs. record regs { r = 0x02; pc = 0x0003 }) (Write 0x4300 0x3D ∷ []) ∷
    -- LD (IY+7FH),E | FD 73 7F | | 19 | (4300)=4E
    vector_line (0xFD ∷ 0x73 ∷ 0x7F ∷ []) usual_1 cells_1 None (Took 19 ∷ [])
    (λ regs. record regs { r = 0x02; pc = 0x0003 }) (Write 0x4300 0x4E ∷ []) ∷
    -- LD (IY+7FH),H | FD 74 7F | | 19 | (4300)=42
    vector_line (0xFD ∷ 0x74 ∷ 0x7F ∷ []) usual_1 cells_1 None (Took 19 ∷ [])
    (λ regs. record regs { r = 0x02; pc = 0x0003 }) (Write 0x4300 0x42 ∷ []) ∷
    -- LD (IY+7FH),A | FD 77 7F | | 19 | (4300)=0A
    vector_line (0xFD ∷ 0x77 ∷ 0x7F ∷ []) usual_1 cells_1 None (Took 19 ∷ [])
    (λ regs. record regs { r = 0x02; pc = 0x0003 }) (Write 0x4300 0x0A ∷ []) ∷
    []
