-- Law: Arithmetic of bytes (UM0080, "8-Bit Arithmetic Group"). Made by tools/make/make-vectors from tools/check/vectors.txt.
use Rattle.std.specs.Prelude.{List, [], ◌∷◌, None}
use Rattle.pac_bus.specs.Action.{Action, Write}
use Rattle.pac_exec.specs.declared.regs.Regs.{Regs}
use Rattle.pac_cpu.specs.Power.{power_on_regs}
use Rattle.pac_cpu_vectors.specs.Vectors.{VectorLine, vector_line, Took}

abbrev usual_1 : Regs
usual_1 = record power_on_regs { a = 0x15 }

abbrev cells_1 : List Action
cells_1 = Write 0x4C00 0x27 ∷ Write 0x006F 0x03 ∷ []

abbrev usual_2 : Regs
usual_2 = record power_on_regs { a = 0x15; f = 0x01; h = 0x4C }

abbrev cells_2 : List Action
cells_2 = Write 0x4C00 0x27 ∷ []

abbrev usual_4 : Regs
usual_4 = record power_on_regs { h = 0x4C; ix = 0x4C80; iy = 0x4B81 }

-- the lines of the table
abbrev pub arithmetic_of_bytes_lines : List VectorLine
arithmetic_of_bytes_lines =
    -- ADD A,B | 80 | B=27 H=4C IX=4C80 IY=4B81 | 4 | A=3C
    vector_line (0x80 ∷ []) (record usual_1 { b = 0x27; h = 0x4C; ix = 0x4C80; iy = 0x4B81 }) cells_1 None (Took 4 ∷ [])
    (λ regs. record regs { r = 0x01; pc = 0x0001; a = 0x3C }) [] ∷
    -- ADD A,C | 81 | C=27 H=4C IX=4C80 IY=4B81 | 4 | A=3C
    vector_line (0x81 ∷ []) (record usual_1 { c = 0x27; h = 0x4C; ix = 0x4C80; iy = 0x4B81 }) cells_1 None (Took 4 ∷ [])
    (λ regs. record regs { r = 0x01; pc = 0x0001; a = 0x3C }) [] ∷
    -- ADD A,D | 82 | D=27 H=4C IX=4C80 IY=4B81 | 4 | A=3C
    vector_line (0x82 ∷ []) (record usual_1 { d = 0x27; h = 0x4C; ix = 0x4C80; iy = 0x4B81 }) cells_1 None (Took 4 ∷ [])
    (λ regs. record regs { r = 0x01; pc = 0x0001; a = 0x3C }) [] ∷
    -- ADD A,E | 83 | E=27 H=4C IX=4C80 IY=4B81 | 4 | A=3C
    vector_line (0x83 ∷ []) (record usual_1 { e = 0x27; h = 0x4C; ix = 0x4C80; iy = 0x4B81 }) cells_1 None (Took 4 ∷ [])
    (λ regs. record regs { r = 0x01; pc = 0x0001; a = 0x3C }) [] ∷
    -- ADD A,H | 84 | H=48 IX=4C80 IY=4B81 | 4 | A=5D
    vector_line (0x84 ∷ []) (record usual_1 { h = 0x48; ix = 0x4C80; iy = 0x4B81 }) cells_1 None (Took 4 ∷ [])
    (λ regs. record regs { r = 0x01; pc = 0x0001; a = 0x5D }) [] ∷
    -- ADD A,L | 85 | HL=4C2B IX=4C80 IY=4B81 | 4 | A=40 F=10
    vector_line (0x85 ∷ []) (record usual_1 { h = 0x4C; l = 0x2B; ix = 0x4C80; iy = 0x4B81 }) cells_1 None (Took 4 ∷ [])
    (λ regs. record regs { r = 0x01; pc = 0x0001; a = 0x40; f = 0x10 }) [] ∷
    -- ADD A,A | 87 | H=4C IX=4C80 IY=4B81 | 4 | A=2A
    vector_line (0x87 ∷ []) (record usual_1 { h = 0x4C; ix = 0x4C80; iy = 0x4B81 }) cells_1 None (Took 4 ∷ [])
    (λ regs. record regs { r = 0x01; pc = 0x0001; a = 0x2A }) [] ∷
    -- ADD A,27H | C6 27 | H=4C IX=4C80 IY=4B81 | 7 | A=3C
    vector_line (0xC6 ∷ 0x27 ∷ []) (record usual_1 { h = 0x4C; ix = 0x4C80; iy = 0x4B81 }) cells_1 None (Took 7 ∷ [])
    (λ regs. record regs { r = 0x01; pc = 0x0002; a = 0x3C }) [] ∷
    -- ADD A,(HL) | 86 | H=4C IX=4C80 IY=4B81 | 7 | A=3C
    vector_line (0x86 ∷ []) (record usual_1 { h = 0x4C; ix = 0x4C80; iy = 0x4B81 }) cells_1 None (Took 7 ∷ [])
    (λ regs. record regs { r = 0x01; pc = 0x0001; a = 0x3C }) [] ∷
    -- ADD A,(IX-80H) | DD 86 80 | H=4C IX=4C80 IY=4B81 | 19 | A=3C
    vector_line (0xDD ∷ 0x86 ∷ 0x80 ∷ []) (record usual_1 { h = 0x4C; ix = 0x4C80; iy = 0x4B81 }) cells_1 None (Took 19 ∷ [])
    (λ regs. record regs { r = 0x02; pc = 0x0003; a = 0x3C }) [] ∷
    -- ADD A,(IY+7FH) | FD 86 7F | H=4C IX=4C80 IY=4B81 | 19 | A=3C
    vector_line (0xFD ∷ 0x86 ∷ 0x7F ∷ []) (record usual_1 { h = 0x4C; ix = 0x4C80; iy = 0x4B81 }) cells_1 None (Took 19 ∷ [])
    (λ regs. record regs { r = 0x02; pc = 0x0003; a = 0x3C }) [] ∷
    -- ADD A,(IX-80H) | DD 86 80 | H=4C IX=0010 IY=4B81 DIP=10 (FF90)=10 | 19 | A=25
    vector_line (0xDD ∷ 0x86 ∷ 0x80 ∷ []) (record usual_1 { h = 0x4C; ix = 0x0010; iy = 0x4B81 }) (Write 0xFF90 0x10 ∷ cells_1) None
    (Took 19 ∷ [])
    (λ regs. record regs { r = 0x02; pc = 0x0003; a = 0x25 }) [] ∷
    -- ADD A,(IY+7FH) | FD 86 7F | H=4C IX=4C80 IY=FFF0 | 19 | A=18
    vector_line (0xFD ∷ 0x86 ∷ 0x7F ∷ []) (record usual_1 { h = 0x4C; ix = 0x4C80; iy = 0xFFF0 }) cells_1 None (Took 19 ∷ [])
    (λ regs. record regs { r = 0x02; pc = 0x0003; a = 0x18 }) [] ∷
    -- ADD A,(HL) | 86 | | 7 | A=3C F=00
    vector_line (0x86 ∷ []) usual_2 cells_2 None (Took 7 ∷ []) (λ regs. record regs { r = 0x01; pc = 0x0001; a = 0x3C; f = 0x00 }) [] ∷
    -- ADC A,(HL) | 8E | | 7 | A=3D F=00
    vector_line (0x8E ∷ []) usual_2 cells_2 None (Took 7 ∷ []) (λ regs. record regs { r = 0x01; pc = 0x0001; a = 0x3D; f = 0x00 }) [] ∷
    -- SUB (HL) | 96 | | 7 | A=EE F=93
    vector_line (0x96 ∷ []) usual_2 cells_2 None (Took 7 ∷ []) (λ regs. record regs { r = 0x01; pc = 0x0001; a = 0xEE; f = 0x93 }) [] ∷
    -- SBC A,(HL) | 9E | | 7 | A=ED F=93
    vector_line (0x9E ∷ []) usual_2 cells_2 None (Took 7 ∷ []) (λ regs. record regs { r = 0x01; pc = 0x0001; a = 0xED; f = 0x93 }) [] ∷
    -- AND (HL) | A6 | | 7 | A=05 F=14
    vector_line (0xA6 ∷ []) usual_2 cells_2 None (Took 7 ∷ []) (λ regs. record regs { r = 0x01; pc = 0x0001; a = 0x05; f = 0x14 }) [] ∷
    -- XOR (HL) | AE | | 7 | A=32 F=00
    vector_line (0xAE ∷ []) usual_2 cells_2 None (Took 7 ∷ []) (λ regs. record regs { r = 0x01; pc = 0x0001; a = 0x32; f = 0x00 }) [] ∷
    -- OR (HL) | B6 | | 7 | A=37 F=00
    vector_line (0xB6 ∷ []) usual_2 cells_2 None (Took 7 ∷ []) (λ regs. record regs { r = 0x01; pc = 0x0001; a = 0x37; f = 0x00 }) [] ∷
    -- CP (HL) | BE | | 7 | F=93
    vector_line (0xBE ∷ []) usual_2 cells_2 None (Took 7 ∷ []) (λ regs. record regs { r = 0x01; pc = 0x0001; f = 0x93 }) [] ∷
    -- INC B | 04 | A=7F BC=7F7F DE=7F7F HL=7F7F | 4 | F=94 B=80
    vector_line (0x04 ∷ []) (record power_on_regs { a = 0x7F; b = 0x7F; c = 0x7F; d = 0x7F; e = 0x7F; h = 0x7F; l = 0x7F }) [] None
    (Took 4 ∷ [])
    (λ regs. record regs { r = 0x01; pc = 0x0001; f = 0x94; b = 0x80 }) [] ∷
    -- INC C | 0C | A=7F BC=7F7F DE=7F7F HL=7F7F | 4 | F=94 C=80
    vector_line (0x0C ∷ []) (record power_on_regs { a = 0x7F; b = 0x7F; c = 0x7F; d = 0x7F; e = 0x7F; h = 0x7F; l = 0x7F }) [] None
    (Took 4 ∷ [])
    (λ regs. record regs { r = 0x01; pc = 0x0001; f = 0x94; c = 0x80 }) [] ∷
    -- INC D | 14 | A=7F BC=7F7F DE=7F7F HL=7F7F | 4 | F=94 D=80
    vector_line (0x14 ∷ []) (record power_on_regs { a = 0x7F; b = 0x7F; c = 0x7F; d = 0x7F; e = 0x7F; h = 0x7F; l = 0x7F }) [] None
    (Took 4 ∷ [])
    (λ regs. record regs { r = 0x01; pc = 0x0001; f = 0x94; d = 0x80 }) [] ∷
    -- INC E | 1C | A=7F BC=7F7F DE=7F7F HL=7F7F | 4 | F=94 E=80
    vector_line (0x1C ∷ []) (record power_on_regs { a = 0x7F; b = 0x7F; c = 0x7F; d = 0x7F; e = 0x7F; h = 0x7F; l = 0x7F }) [] None
    (Took 4 ∷ [])
    (λ regs. record regs { r = 0x01; pc = 0x0001; f = 0x94; e = 0x80 }) [] ∷
    -- INC H | 24 | A=7F BC=7F7F DE=7F7F HL=7F7F | 4 | F=94 H=80
    vector_line (0x24 ∷ []) (record power_on_regs { a = 0x7F; b = 0x7F; c = 0x7F; d = 0x7F; e = 0x7F; h = 0x7F; l = 0x7F }) [] None
    (Took 4 ∷ [])
    (λ regs. record regs { r = 0x01; pc = 0x0001; f = 0x94; h = 0x80 }) [] ∷
    -- INC L | 2C | A=7F BC=7F7F DE=7F7F HL=7F7F | 4 | F=94 L=80
    vector_line (0x2C ∷ []) (record power_on_regs { a = 0x7F; b = 0x7F; c = 0x7F; d = 0x7F; e = 0x7F; h = 0x7F; l = 0x7F }) [] None
    (Took 4 ∷ [])
    (λ regs. record regs { r = 0x01; pc = 0x0001; f = 0x94; l = 0x80 }) [] ∷
    -- INC A | 3C | A=7F BC=7F7F DE=7F7F HL=7F7F | 4 | A=80 F=94
    vector_line (0x3C ∷ []) (record power_on_regs { a = 0x7F; b = 0x7F; c = 0x7F; d = 0x7F; e = 0x7F; h = 0x7F; l = 0x7F }) [] None
    (Took 4 ∷ [])
    (λ regs. record regs { r = 0x01; pc = 0x0001; a = 0x80; f = 0x94 }) [] ∷
    -- DEC B | 05 | A=7F BC=7F7F DE=7F7F HL=7F7F | 4 | F=02 B=7E
    vector_line (0x05 ∷ []) (record power_on_regs { a = 0x7F; b = 0x7F; c = 0x7F; d = 0x7F; e = 0x7F; h = 0x7F; l = 0x7F }) [] None
    (Took 4 ∷ [])
    (λ regs. record regs { r = 0x01; pc = 0x0001; f = 0x02; b = 0x7E }) [] ∷
    -- DEC L | 2D | A=7F BC=7F7F DE=7F7F HL=7F7F | 4 | F=02 L=7E
    vector_line (0x2D ∷ []) (record power_on_regs { a = 0x7F; b = 0x7F; c = 0x7F; d = 0x7F; e = 0x7F; h = 0x7F; l = 0x7F }) [] None
    (Took 4 ∷ [])
    (λ regs. record regs { r = 0x01; pc = 0x0001; f = 0x02; l = 0x7E }) [] ∷
    -- DEC A | 3D | A=7F BC=7F7F DE=7F7F HL=7F7F | 4 | A=7E F=02
    vector_line (0x3D ∷ []) (record power_on_regs { a = 0x7F; b = 0x7F; c = 0x7F; d = 0x7F; e = 0x7F; h = 0x7F; l = 0x7F }) [] None
    (Took 4 ∷ [])
    (λ regs. record regs { r = 0x01; pc = 0x0001; a = 0x7E; f = 0x02 }) [] ∷
    -- INC A | 3C | A=FF | 4 | A=00 F=50
    vector_line (0x3C ∷ []) (record power_on_regs { a = 0xFF }) [] None (Took 4 ∷ [])
    (λ regs. record regs { r = 0x01; pc = 0x0001; a = 0x00; f = 0x50 }) [] ∷
    -- INC A | 3C | A=FF F=FF | 4 | A=00 F=79
    vector_line (0x3C ∷ []) (record power_on_regs { a = 0xFF; f = 0xFF }) [] None (Took 4 ∷ [])
    (λ regs. record regs { r = 0x01; pc = 0x0001; a = 0x00; f = 0x79 }) [] ∷
    -- INC A | 3C | A=0F F=01 | 4 | A=10 F=11
    vector_line (0x3C ∷ []) (record power_on_regs { a = 0x0F; f = 0x01 }) [] None (Took 4 ∷ [])
    (λ regs. record regs { r = 0x01; pc = 0x0001; a = 0x10; f = 0x11 }) [] ∷
    -- DEC A | 3D | A=80 | 4 | A=7F F=16
    vector_line (0x3D ∷ []) (record power_on_regs { a = 0x80 }) [] None (Took 4 ∷ [])
    (λ regs. record regs { r = 0x01; pc = 0x0001; a = 0x7F; f = 0x16 }) [] ∷
    -- DEC A | 3D | F=01 | 4 | A=FF F=93
    vector_line (0x3D ∷ []) (record power_on_regs { f = 0x01 }) [] None (Took 4 ∷ [])
    (λ regs. record regs { r = 0x01; pc = 0x0001; a = 0xFF; f = 0x93 }) [] ∷
    -- DEC A | 3D | A=01 F=FF | 4 | A=00 F=6B
    vector_line (0x3D ∷ []) (record power_on_regs { a = 0x01; f = 0xFF }) [] None (Took 4 ∷ [])
    (λ regs. record regs { r = 0x01; pc = 0x0001; a = 0x00; f = 0x6B }) [] ∷
    -- INC (HL) | 34 | (4C00)=0F | 11 | F=10 (4C00)=10
    vector_line (0x34 ∷ []) usual_4 (Write 0x4C00 0x0F ∷ []) None (Took 11 ∷ [])
    (λ regs. record regs { r = 0x01; pc = 0x0001; f = 0x10 }) (Write 0x4C00 0x10 ∷ []) ∷
    -- DEC (HL) | 35 | (4C00)=10 | 11 | F=12 (4C00)=0F
    vector_line (0x35 ∷ []) usual_4 (Write 0x4C00 0x10 ∷ []) None (Took 11 ∷ [])
    (λ regs. record regs { r = 0x01; pc = 0x0001; f = 0x12 }) (Write 0x4C00 0x0F ∷ []) ∷
    -- INC (IX-80H) | DD 34 80 | (4C00)=7F | 23 | F=94 (4C00)=80
    vector_line (0xDD ∷ 0x34 ∷ 0x80 ∷ []) usual_4 (Write 0x4C00 0x7F ∷ []) None (Took 23 ∷ [])
    (λ regs. record regs { r = 0x02; pc = 0x0003; f = 0x94 }) (Write 0x4C00 0x80 ∷ []) ∷
    -- DEC (IX-80H) | DD 35 80 | (4C00)=80 | 23 | F=16 (4C00)=7F
    vector_line (0xDD ∷ 0x35 ∷ 0x80 ∷ []) usual_4 (Write 0x4C00 0x80 ∷ []) None (Took 23 ∷ [])
    (λ regs. record regs { r = 0x02; pc = 0x0003; f = 0x16 }) (Write 0x4C00 0x7F ∷ []) ∷
    -- INC (IY+7FH) | FD 34 7F | (4C00)=FF | 23 | F=50 (4C00)=00
    vector_line (0xFD ∷ 0x34 ∷ 0x7F ∷ []) usual_4 (Write 0x4C00 0xFF ∷ []) None (Took 23 ∷ [])
    (λ regs. record regs { r = 0x02; pc = 0x0003; f = 0x50 }) (Write 0x4C00 0x00 ∷ []) ∷
    -- DEC (IY+7FH) | FD 35 7F | | 23 | F=92 (4C00)=FF
    vector_line (0xFD ∷ 0x35 ∷ 0x7F ∷ []) usual_4 [] None (Took 23 ∷ [])
    (λ regs. record regs { r = 0x02; pc = 0x0003; f = 0x92 }) (Write 0x4C00 0xFF ∷ []) ∷
    []
