-- Law: Loads of bytes (UM0080, "8-Bit Load Group"). Made by tools/make/make-vectors from tools/check/vectors.txt.
use Rattle.std.specs.Prelude.{List, [], ◌∷◌, None}
use Rattle.pac_bus.specs.Action.{Action, Write}
use Rattle.pac_exec.specs.declared.regs.Regs.{Regs}
use Rattle.pac_cpu.specs.Power.{power_on_regs}
use Rattle.pac_cpu_vectors.specs.Vectors.{VectorLine, vector_line, Took}

abbrev usual_1 : Regs
usual_1 = record power_on_regs {
  a = 0x0A;
  f = 0xFF;
  b = 0x40;
  c = 0x0C;
  d = 0x41;
  e = 0x0E;
  h = 0x42;
  l = 0x0D;
  ix = 0x4380;
  iy = 0x4281;
}

abbrev cells_1 : List Action
cells_1 = Write 0x4D01 0x78 ∷ Write 0x4D00 0x77 ∷ Write 0x4300 0x1D ∷ Write 0x420D 0xE1 ∷ Write 0x410E 0xDE ∷ Write 0x400C 0xBC ∷ []

-- the lines of the table
abbrev pub loads_of_bytes_lines : List VectorLine
loads_of_bytes_lines =
    -- LD B,C | 41 | | 4 | B=0C
    vector_line (0x41 ∷ []) usual_1 cells_1 None (Took 4 ∷ []) (λ regs. record regs { r = 0x01; pc = 0x0001; b = 0x0C }) [] ∷
    -- LD C,D | 4A | | 4 | C=41
    vector_line (0x4A ∷ []) usual_1 cells_1 None (Took 4 ∷ []) (λ regs. record regs { r = 0x01; pc = 0x0001; c = 0x41 }) [] ∷
    -- LD D,E | 53 | | 4 | D=0E
    vector_line (0x53 ∷ []) usual_1 cells_1 None (Took 4 ∷ []) (λ regs. record regs { r = 0x01; pc = 0x0001; d = 0x0E }) [] ∷
    -- LD E,H | 5C | | 4 | E=42
    vector_line (0x5C ∷ []) usual_1 cells_1 None (Took 4 ∷ []) (λ regs. record regs { r = 0x01; pc = 0x0001; e = 0x42 }) [] ∷
    -- LD H,L | 65 | | 4 | H=0D
    vector_line (0x65 ∷ []) usual_1 cells_1 None (Took 4 ∷ []) (λ regs. record regs { r = 0x01; pc = 0x0001; h = 0x0D }) [] ∷
    -- LD L,A | 6F | | 4 | L=0A
    vector_line (0x6F ∷ []) usual_1 cells_1 None (Took 4 ∷ []) (λ regs. record regs { r = 0x01; pc = 0x0001; l = 0x0A }) [] ∷
    -- LD A,B | 78 | | 4 | A=40
    vector_line (0x78 ∷ []) usual_1 cells_1 None (Took 4 ∷ []) (λ regs. record regs { r = 0x01; pc = 0x0001; a = 0x40 }) [] ∷
    -- LD D,0A5H | 16 A5 | | 7 | D=A5
    vector_line (0x16 ∷ 0xA5 ∷ []) usual_1 cells_1 None (Took 7 ∷ []) (λ regs. record regs { r = 0x01; pc = 0x0002; d = 0xA5 }) [] ∷
    -- LD A,0A5H | 3E A5 | | 7 | A=A5
    vector_line (0x3E ∷ 0xA5 ∷ []) usual_1 cells_1 None (Took 7 ∷ []) (λ regs. record regs { r = 0x01; pc = 0x0002; a = 0xA5 }) [] ∷
    -- LD H,(HL) | 66 | | 7 | H=E1
    vector_line (0x66 ∷ []) usual_1 cells_1 None (Took 7 ∷ []) (λ regs. record regs { r = 0x01; pc = 0x0001; h = 0xE1 }) [] ∷
    -- LD C,(IX-80H) | DD 4E 80 | | 19 | C=1D
    vector_line (0xDD ∷ 0x4E ∷ 0x80 ∷ []) usual_1 cells_1 None (Took 19 ∷ []) (λ regs. record regs { r = 0x02; pc = 0x0003; c = 0x1D }) [] ∷
    -- LD E,(IY+7FH) | FD 5E 7F | | 19 | E=1D
    vector_line (0xFD ∷ 0x5E ∷ 0x7F ∷ []) usual_1 cells_1 None (Took 19 ∷ []) (λ regs. record regs { r = 0x02; pc = 0x0003; e = 0x1D }) [] ∷
    -- LD A,(BC) | 0A | | 7 | A=BC
    vector_line (0x0A ∷ []) usual_1 cells_1 None (Took 7 ∷ []) (λ regs. record regs { r = 0x01; pc = 0x0001; a = 0xBC }) [] ∷
    -- LD A,(DE) | 1A | | 7 | A=DE
    vector_line (0x1A ∷ []) usual_1 cells_1 None (Took 7 ∷ []) (λ regs. record regs { r = 0x01; pc = 0x0001; a = 0xDE }) [] ∷
    -- LD A,(4D00H) | 3A 00 4D | | 13 | A=77
    vector_line (0x3A ∷ 0x00 ∷ 0x4D ∷ []) usual_1 cells_1 None (Took 13 ∷ []) (λ regs. record regs { r = 0x01; pc = 0x0003; a = 0x77 }) [] ∷
    -- NOP | 00 | | 4 |
    vector_line (0x00 ∷ []) usual_1 cells_1 None (Took 4 ∷ []) (λ regs. record regs { r = 0x01; pc = 0x0001 }) [] ∷
    -- LD (HL),D | 72 | | 7 | (420D)=41
    vector_line (0x72 ∷ []) usual_1 cells_1 None (Took 7 ∷ []) (λ regs. record regs { r = 0x01; pc = 0x0001 }) (Write 0x420D 0x41 ∷ []) ∷
    -- LD (HL),0A5H | 36 A5 | | 10 | (420D)=A5
    vector_line (0x36 ∷ 0xA5 ∷ []) usual_1 cells_1 None (Took 10 ∷ [])
    (λ regs. record regs { r = 0x01; pc = 0x0002 }) (Write 0x420D 0xA5 ∷ []) ∷
    -- LD (IX-80H),A | DD 77 80 | | 19 | (4300)=0A
    vector_line (0xDD ∷ 0x77 ∷ 0x80 ∷ []) usual_1 cells_1 None (Took 19 ∷ [])
    (λ regs. record regs { r = 0x02; pc = 0x0003 }) (Write 0x4300 0x0A ∷ []) ∷
    -- LD (IY+7FH),L | FD 75 7F | | 19 | (4300)=0D
    vector_line (0xFD ∷ 0x75 ∷ 0x7F ∷ []) usual_1 cells_1 None (Took 19 ∷ [])
    (λ regs. record regs { r = 0x02; pc = 0x0003 }) (Write 0x4300 0x0D ∷ []) ∷
    -- LD (IX-80H),0A5H | DD 36 80 A5 | | 19 | (4300)=A5
    vector_line (0xDD ∷ 0x36 ∷ 0x80 ∷ 0xA5 ∷ []) usual_1 cells_1 None (Took 19 ∷ [])
    (λ regs. record regs { r = 0x02; pc = 0x0004 }) (Write 0x4300 0xA5 ∷ []) ∷
    -- LD (IY+7FH),5AH | FD 36 7F 5A | | 19 | (4300)=5A
    vector_line (0xFD ∷ 0x36 ∷ 0x7F ∷ 0x5A ∷ []) usual_1 cells_1 None (Took 19 ∷ [])
    (λ regs. record regs { r = 0x02; pc = 0x0004 }) (Write 0x4300 0x5A ∷ []) ∷
    -- LD (BC),A | 02 | | 7 | (400C)=0A
    vector_line (0x02 ∷ []) usual_1 cells_1 None (Took 7 ∷ []) (λ regs. record regs { r = 0x01; pc = 0x0001 }) (Write 0x400C 0x0A ∷ []) ∷
    -- LD (DE),A | 12 | | 7 | (410E)=0A
    vector_line (0x12 ∷ []) usual_1 cells_1 None (Took 7 ∷ []) (λ regs. record regs { r = 0x01; pc = 0x0001 }) (Write 0x410E 0x0A ∷ []) ∷
    -- LD (4D01H),A | 32 01 4D | | 13 | (4D01)=0A
    vector_line (0x32 ∷ 0x01 ∷ 0x4D ∷ []) usual_1 cells_1 None (Took 13 ∷ [])
    (λ regs. record regs { r = 0x01; pc = 0x0003 }) (Write 0x4D01 0x0A ∷ []) ∷
    []
