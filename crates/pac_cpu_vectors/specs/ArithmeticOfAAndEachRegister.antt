-- Law: Arithmetic of A and each register (UM0080, "8-Bit Arithmetic Group"). Made by tools/make/make-vectors from tools/check/vectors.txt.
use Rattle.std.specs.Prelude.{List, [], ◌∷◌, None}
use Rattle.pac_bus.specs.Action.{Action, Write}
use Rattle.pac_exec.specs.declared.regs.Regs.{Regs}
use Rattle.pac_cpu.specs.Power.{power_on_regs}
use Rattle.pac_cpu_vectors.specs.Vectors.{VectorLine, vector_line, Took}

abbrev usual_1 : Regs
usual_1 = record power_on_regs { a = 0x9C; b = 0x64; c = 0x63; d = 0x9C; e = 0x9D; h = 0x80; l = 0x1C }

abbrev usual_2 : Regs
usual_2 = record power_on_regs { a = 0x9C; ix = 0x4C80; iy = 0x4B81 }

abbrev cells_2 : List Action
cells_2 = Write 0x4C00 0x63 ∷ []

-- the lines of the table
abbrev pub arithmetic_of_a_and_each_register_lines : List VectorLine
arithmetic_of_a_and_each_register_lines =
    -- ADC A,B | 88 | | 4 | A=00 F=51
    vector_line (0x88 ∷ []) usual_1 [] None (Took 4 ∷ []) (λ regs. record regs { r = 0x01; pc = 0x0001; a = 0x00; f = 0x51 }) [] ∷
    -- ADC A,C | 89 | F=01 | 4 | A=00 F=51
    vector_line (0x89 ∷ []) (record usual_1 { f = 0x01 }) [] None (Took 4 ∷ [])
    (λ regs. record regs { r = 0x01; pc = 0x0001; a = 0x00; f = 0x51 }) [] ∷
    -- ADC A,D | 8A | F=28 | 4 | A=38 F=3D
    vector_line (0x8A ∷ []) (record usual_1 { f = 0x28 }) [] None (Took 4 ∷ [])
    (λ regs. record regs { r = 0x01; pc = 0x0001; a = 0x38; f = 0x3D }) [] ∷
    -- ADC A,E | 8B | F=29 | 4 | A=3A F=3D
    vector_line (0x8B ∷ []) (record usual_1 { f = 0x29 }) [] None (Took 4 ∷ [])
    (λ regs. record regs { r = 0x01; pc = 0x0001; a = 0x3A; f = 0x3D }) [] ∷
    -- ADC A,H | 8C | F=FF | 4 | A=1D F=2D
    vector_line (0x8C ∷ []) (record usual_1 { f = 0xFF }) [] None (Took 4 ∷ [])
    (λ regs. record regs { r = 0x01; pc = 0x0001; a = 0x1D; f = 0x2D }) [] ∷
    -- ADC A,L | 8D | F=D6 | 4 | A=B8 F=90
    vector_line (0x8D ∷ []) (record usual_1 { f = 0xD6 }) [] None (Took 4 ∷ [])
    (λ regs. record regs { r = 0x01; pc = 0x0001; a = 0xB8; f = 0x90 }) [] ∷
    -- ADC A,A | 8F | | 4 | A=38 F=15
    vector_line (0x8F ∷ []) usual_1 [] None (Took 4 ∷ []) (λ regs. record regs { r = 0x01; pc = 0x0001; a = 0x38; f = 0x15 }) [] ∷
    -- SUB B | 90 | F=01 | 4 | A=38 F=06
    vector_line (0x90 ∷ []) (record usual_1 { f = 0x01 }) [] None (Took 4 ∷ [])
    (λ regs. record regs { r = 0x01; pc = 0x0001; a = 0x38; f = 0x06 }) [] ∷
    -- SUB C | 91 | F=28 | 4 | A=39 F=2E
    vector_line (0x91 ∷ []) (record usual_1 { f = 0x28 }) [] None (Took 4 ∷ [])
    (λ regs. record regs { r = 0x01; pc = 0x0001; a = 0x39; f = 0x2E }) [] ∷
    -- SUB D | 92 | F=29 | 4 | A=00 F=6A
    vector_line (0x92 ∷ []) (record usual_1 { f = 0x29 }) [] None (Took 4 ∷ [])
    (λ regs. record regs { r = 0x01; pc = 0x0001; a = 0x00; f = 0x6A }) [] ∷
    -- SUB E | 93 | F=FF | 4 | A=FF F=BB
    vector_line (0x93 ∷ []) (record usual_1 { f = 0xFF }) [] None (Took 4 ∷ [])
    (λ regs. record regs { r = 0x01; pc = 0x0001; a = 0xFF; f = 0xBB }) [] ∷
    -- SUB H | 94 | F=D6 | 4 | A=1C F=02
    vector_line (0x94 ∷ []) (record usual_1 { f = 0xD6 }) [] None (Took 4 ∷ [])
    (λ regs. record regs { r = 0x01; pc = 0x0001; a = 0x1C; f = 0x02 }) [] ∷
    -- SUB L | 95 | | 4 | A=80 F=82
    vector_line (0x95 ∷ []) usual_1 [] None (Took 4 ∷ []) (λ regs. record regs { r = 0x01; pc = 0x0001; a = 0x80; f = 0x82 }) [] ∷
    -- SUB A | 97 | F=01 | 4 | A=00 F=42
    vector_line (0x97 ∷ []) (record usual_1 { f = 0x01 }) [] None (Took 4 ∷ [])
    (λ regs. record regs { r = 0x01; pc = 0x0001; a = 0x00; f = 0x42 }) [] ∷
    -- SBC A,B | 98 | F=28 | 4 | A=38 F=2E
    vector_line (0x98 ∷ []) (record usual_1 { f = 0x28 }) [] None (Took 4 ∷ [])
    (λ regs. record regs { r = 0x01; pc = 0x0001; a = 0x38; f = 0x2E }) [] ∷
    -- SBC A,C | 99 | F=29 | 4 | A=38 F=2E
    vector_line (0x99 ∷ []) (record usual_1 { f = 0x29 }) [] None (Took 4 ∷ [])
    (λ regs. record regs { r = 0x01; pc = 0x0001; a = 0x38; f = 0x2E }) [] ∷
    -- SBC A,D | 9A | F=FF | 4 | A=FF F=BB
    vector_line (0x9A ∷ []) (record usual_1 { f = 0xFF }) [] None (Took 4 ∷ [])
    (λ regs. record regs { r = 0x01; pc = 0x0001; a = 0xFF; f = 0xBB }) [] ∷
    -- SBC A,E | 9B | F=D6 | 4 | A=FF F=93
    vector_line (0x9B ∷ []) (record usual_1 { f = 0xD6 }) [] None (Took 4 ∷ [])
    (λ regs. record regs { r = 0x01; pc = 0x0001; a = 0xFF; f = 0x93 }) [] ∷
    -- SBC A,H | 9C | | 4 | A=1C F=02
    vector_line (0x9C ∷ []) usual_1 [] None (Took 4 ∷ []) (λ regs. record regs { r = 0x01; pc = 0x0001; a = 0x1C; f = 0x02 }) [] ∷
    -- SBC A,L | 9D | F=01 | 4 | A=7F F=16
    vector_line (0x9D ∷ []) (record usual_1 { f = 0x01 }) [] None (Took 4 ∷ [])
    (λ regs. record regs { r = 0x01; pc = 0x0001; a = 0x7F; f = 0x16 }) [] ∷
    -- SBC A,A | 9F | F=28 | 4 | A=00 F=6A
    vector_line (0x9F ∷ []) (record usual_1 { f = 0x28 }) [] None (Took 4 ∷ [])
    (λ regs. record regs { r = 0x01; pc = 0x0001; a = 0x00; f = 0x6A }) [] ∷
    -- AND B | A0 | F=29 | 4 | A=04 F=38
    vector_line (0xA0 ∷ []) (record usual_1 { f = 0x29 }) [] None (Took 4 ∷ [])
    (λ regs. record regs { r = 0x01; pc = 0x0001; a = 0x04; f = 0x38 }) [] ∷
    -- AND C | A1 | F=FF | 4 | A=00 F=7C
    vector_line (0xA1 ∷ []) (record usual_1 { f = 0xFF }) [] None (Took 4 ∷ [])
    (λ regs. record regs { r = 0x01; pc = 0x0001; a = 0x00; f = 0x7C }) [] ∷
    -- AND D | A2 | F=D6 | 4 | F=94
    vector_line (0xA2 ∷ []) (record usual_1 { f = 0xD6 }) [] None (Took 4 ∷ [])
    (λ regs. record regs { r = 0x01; pc = 0x0001; f = 0x94 }) [] ∷
    -- AND E | A3 | | 4 | F=94
    vector_line (0xA3 ∷ []) usual_1 [] None (Took 4 ∷ []) (λ regs. record regs { r = 0x01; pc = 0x0001; f = 0x94 }) [] ∷
    -- AND H | A4 | F=01 | 4 | A=80 F=90
    vector_line (0xA4 ∷ []) (record usual_1 { f = 0x01 }) [] None (Took 4 ∷ [])
    (λ regs. record regs { r = 0x01; pc = 0x0001; a = 0x80; f = 0x90 }) [] ∷
    -- AND L | A5 | F=28 | 4 | A=1C F=38
    vector_line (0xA5 ∷ []) (record usual_1 { f = 0x28 }) [] None (Took 4 ∷ [])
    (λ regs. record regs { r = 0x01; pc = 0x0001; a = 0x1C; f = 0x38 }) [] ∷
    -- AND A | A7 | F=29 | 4 | F=BC
    vector_line (0xA7 ∷ []) (record usual_1 { f = 0x29 }) [] None (Took 4 ∷ [])
    (λ regs. record regs { r = 0x01; pc = 0x0001; f = 0xBC }) [] ∷
    -- XOR B | A8 | F=FF | 4 | A=F8 F=A8
    vector_line (0xA8 ∷ []) (record usual_1 { f = 0xFF }) [] None (Took 4 ∷ [])
    (λ regs. record regs { r = 0x01; pc = 0x0001; a = 0xF8; f = 0xA8 }) [] ∷
    -- XOR C | A9 | F=D6 | 4 | A=FF F=84
    vector_line (0xA9 ∷ []) (record usual_1 { f = 0xD6 }) [] None (Took 4 ∷ [])
    (λ regs. record regs { r = 0x01; pc = 0x0001; a = 0xFF; f = 0x84 }) [] ∷
    -- XOR D | AA | | 4 | A=00 F=44
    vector_line (0xAA ∷ []) usual_1 [] None (Took 4 ∷ []) (λ regs. record regs { r = 0x01; pc = 0x0001; a = 0x00; f = 0x44 }) [] ∷
    -- XOR E | AB | F=01 | 4 | A=01 F=00
    vector_line (0xAB ∷ []) (record usual_1 { f = 0x01 }) [] None (Took 4 ∷ [])
    (λ regs. record regs { r = 0x01; pc = 0x0001; a = 0x01; f = 0x00 }) [] ∷
    -- XOR H | AC | F=28 | 4 | A=1C
    vector_line (0xAC ∷ []) (record usual_1 { f = 0x28 }) [] None (Took 4 ∷ [])
    (λ regs. record regs { r = 0x01; pc = 0x0001; a = 0x1C }) [] ∷
    -- XOR L | AD | F=29 | 4 | A=80 F=A8
    vector_line (0xAD ∷ []) (record usual_1 { f = 0x29 }) [] None (Took 4 ∷ [])
    (λ regs. record regs { r = 0x01; pc = 0x0001; a = 0x80; f = 0xA8 }) [] ∷
    -- XOR A | AF | F=FF | 4 | A=00 F=6C
    vector_line (0xAF ∷ []) (record usual_1 { f = 0xFF }) [] None (Took 4 ∷ [])
    (λ regs. record regs { r = 0x01; pc = 0x0001; a = 0x00; f = 0x6C }) [] ∷
    -- OR B | B0 | F=D6 | 4 | A=FC F=84
    vector_line (0xB0 ∷ []) (record usual_1 { f = 0xD6 }) [] None (Took 4 ∷ [])
    (λ regs. record regs { r = 0x01; pc = 0x0001; a = 0xFC; f = 0x84 }) [] ∷
    -- OR C | B1 | | 4 | A=FF F=84
    vector_line (0xB1 ∷ []) usual_1 [] None (Took 4 ∷ []) (λ regs. record regs { r = 0x01; pc = 0x0001; a = 0xFF; f = 0x84 }) [] ∷
    -- OR D | B2 | F=01 | 4 | F=84
    vector_line (0xB2 ∷ []) (record usual_1 { f = 0x01 }) [] None (Took 4 ∷ [])
    (λ regs. record regs { r = 0x01; pc = 0x0001; f = 0x84 }) [] ∷
    -- OR E | B3 | F=28 | 4 | A=9D F=A8
    vector_line (0xB3 ∷ []) (record usual_1 { f = 0x28 }) [] None (Took 4 ∷ [])
    (λ regs. record regs { r = 0x01; pc = 0x0001; a = 0x9D; f = 0xA8 }) [] ∷
    -- OR H | B4 | F=29 | 4 | F=AC
    vector_line (0xB4 ∷ []) (record usual_1 { f = 0x29 }) [] None (Took 4 ∷ [])
    (λ regs. record regs { r = 0x01; pc = 0x0001; f = 0xAC }) [] ∷
    -- OR L | B5 | F=FF | 4 | F=AC
    vector_line (0xB5 ∷ []) (record usual_1 { f = 0xFF }) [] None (Took 4 ∷ [])
    (λ regs. record regs { r = 0x01; pc = 0x0001; f = 0xAC }) [] ∷
    -- CP B | B8 | F=D6 | 4 | F=06
    vector_line (0xB8 ∷ []) (record usual_1 { f = 0xD6 }) [] None (Took 4 ∷ [])
    (λ regs. record regs { r = 0x01; pc = 0x0001; f = 0x06 }) [] ∷
    -- CP C | B9 | | 4 | F=06
    vector_line (0xB9 ∷ []) usual_1 [] None (Took 4 ∷ []) (λ regs. record regs { r = 0x01; pc = 0x0001; f = 0x06 }) [] ∷
    -- CP D | BA | F=01 | 4 | F=42
    vector_line (0xBA ∷ []) (record usual_1 { f = 0x01 }) [] None (Took 4 ∷ [])
    (λ regs. record regs { r = 0x01; pc = 0x0001; f = 0x42 }) [] ∷
    -- CP E | BB | F=28 | 4 | F=BB
    vector_line (0xBB ∷ []) (record usual_1 { f = 0x28 }) [] None (Took 4 ∷ [])
    (λ regs. record regs { r = 0x01; pc = 0x0001; f = 0xBB }) [] ∷
    -- CP H | BC | F=29 | 4 | F=2A
    vector_line (0xBC ∷ []) (record usual_1 { f = 0x29 }) [] None (Took 4 ∷ [])
    (λ regs. record regs { r = 0x01; pc = 0x0001; f = 0x2A }) [] ∷
    -- CP L | BD | F=FF | 4 | F=AA
    vector_line (0xBD ∷ []) (record usual_1 { f = 0xFF }) [] None (Took 4 ∷ [])
    (λ regs. record regs { r = 0x01; pc = 0x0001; f = 0xAA }) [] ∷
    -- CP A | BF | F=D6 | 4 | F=42
    vector_line (0xBF ∷ []) (record usual_1 { f = 0xD6 }) [] None (Took 4 ∷ [])
    (λ regs. record regs { r = 0x01; pc = 0x0001; f = 0x42 }) [] ∷
    -- ADC A,(IX-80H) | DD 8E 80 | | 19 | A=FF F=80
    vector_line (0xDD ∷ 0x8E ∷ 0x80 ∷ []) usual_2 cells_2 None (Took 19 ∷ [])
    (λ regs. record regs { r = 0x02; pc = 0x0003; a = 0xFF; f = 0x80 }) [] ∷
    -- SUB (IX-80H) | DD 96 80 | F=01 | 19 | A=39 F=06
    vector_line (0xDD ∷ 0x96 ∷ 0x80 ∷ []) (record usual_2 { f = 0x01 }) cells_2 None (Took 19 ∷ [])
    (λ regs. record regs { r = 0x02; pc = 0x0003; a = 0x39; f = 0x06 }) [] ∷
    -- SBC A,(IX-80H) | DD 9E 80 | F=28 | 19 | A=39 F=2E
    vector_line (0xDD ∷ 0x9E ∷ 0x80 ∷ []) (record usual_2 { f = 0x28 }) cells_2 None (Took 19 ∷ [])
    (λ regs. record regs { r = 0x02; pc = 0x0003; a = 0x39; f = 0x2E }) [] ∷
    -- AND (IX-80H) | DD A6 80 | F=29 | 19 | A=00 F=7C
    vector_line (0xDD ∷ 0xA6 ∷ 0x80 ∷ []) (record usual_2 { f = 0x29 }) cells_2 None (Took 19 ∷ [])
    (λ regs. record regs { r = 0x02; pc = 0x0003; a = 0x00; f = 0x7C }) [] ∷
    -- XOR (IX-80H) | DD AE 80 | F=FF | 19 | A=FF F=AC
    vector_line (0xDD ∷ 0xAE ∷ 0x80 ∷ []) (record usual_2 { f = 0xFF }) cells_2 None (Took 19 ∷ [])
    (λ regs. record regs { r = 0x02; pc = 0x0003; a = 0xFF; f = 0xAC }) [] ∷
    -- OR (IX-80H) | DD B6 80 | F=D6 | 19 | A=FF F=84
    vector_line (0xDD ∷ 0xB6 ∷ 0x80 ∷ []) (record usual_2 { f = 0xD6 }) cells_2 None (Took 19 ∷ [])
    (λ regs. record regs { r = 0x02; pc = 0x0003; a = 0xFF; f = 0x84 }) [] ∷
    -- CP (IX-80H) | DD BE 80 | | 19 | F=06
    vector_line (0xDD ∷ 0xBE ∷ 0x80 ∷ []) usual_2 cells_2 None (Took 19 ∷ []) (λ regs. record regs { r = 0x02; pc = 0x0003; f = 0x06 }) [] ∷
    -- ADC A,(IY+7FH) | FD 8E 7F | F=01 | 19 | A=00 F=51
    vector_line (0xFD ∷ 0x8E ∷ 0x7F ∷ []) (record usual_2 { f = 0x01 }) cells_2 None (Took 19 ∷ [])
    (λ regs. record regs { r = 0x02; pc = 0x0003; a = 0x00; f = 0x51 }) [] ∷
    -- SUB (IY+7FH) | FD 96 7F | F=28 | 19 | A=39 F=2E
    vector_line (0xFD ∷ 0x96 ∷ 0x7F ∷ []) (record usual_2 { f = 0x28 }) cells_2 None (Took 19 ∷ [])
    (λ regs. record regs { r = 0x02; pc = 0x0003; a = 0x39; f = 0x2E }) [] ∷
    -- SBC A,(IY+7FH) | FD 9E 7F | F=29 | 19 | A=38 F=2E
    vector_line (0xFD ∷ 0x9E ∷ 0x7F ∷ []) (record usual_2 { f = 0x29 }) cells_2 None (Took 19 ∷ [])
    (λ regs. record regs { r = 0x02; pc = 0x0003; a = 0x38; f = 0x2E }) [] ∷
    -- AND (IY+7FH) | FD A6 7F | F=FF | 19 | A=00 F=7C
    vector_line (0xFD ∷ 0xA6 ∷ 0x7F ∷ []) (record usual_2 { f = 0xFF }) cells_2 None (Took 19 ∷ [])
    (λ regs. record regs { r = 0x02; pc = 0x0003; a = 0x00; f = 0x7C }) [] ∷
    -- XOR (IY+7FH) | FD AE 7F | F=D6 | 19 | A=FF F=84
    vector_line (0xFD ∷ 0xAE ∷ 0x7F ∷ []) (record usual_2 { f = 0xD6 }) cells_2 None (Took 19 ∷ [])
    (λ regs. record regs { r = 0x02; pc = 0x0003; a = 0xFF; f = 0x84 }) [] ∷
    -- OR (IY+7FH) | FD B6 7F | | 19 | A=FF F=84
    vector_line (0xFD ∷ 0xB6 ∷ 0x7F ∷ []) usual_2 cells_2 None (Took 19 ∷ [])
    (λ regs. record regs { r = 0x02; pc = 0x0003; a = 0xFF; f = 0x84 }) [] ∷
    -- CP (IY+7FH) | FD BE 7F | F=01 | 19 | F=06
    vector_line (0xFD ∷ 0xBE ∷ 0x7F ∷ []) (record usual_2 { f = 0x01 }) cells_2 None (Took 19 ∷ [])
    (λ regs. record regs { r = 0x02; pc = 0x0003; f = 0x06 }) [] ∷
    -- DEC C | 0D | F=01 C=01 | 4 | C=00 F=43
    vector_line (0x0D ∷ []) (record power_on_regs { f = 0x01; c = 0x01 }) [] None (Took 4 ∷ [])
    (λ regs. record regs { r = 0x01; pc = 0x0001; c = 0x00; f = 0x43 }) [] ∷
    -- DEC D | 15 | D=80 | 4 | D=7F F=16
    vector_line (0x15 ∷ []) (record power_on_regs { d = 0x80 }) [] None (Took 4 ∷ [])
    (λ regs. record regs { r = 0x01; pc = 0x0001; d = 0x7F; f = 0x16 }) [] ∷
    -- DEC E | 1D | F=FF E=10 | 4 | E=0F F=3B
    vector_line (0x1D ∷ []) (record power_on_regs { f = 0xFF; e = 0x10 }) [] None (Took 4 ∷ [])
    (λ regs. record regs { r = 0x01; pc = 0x0001; e = 0x0F; f = 0x3B }) [] ∷
    -- DEC H | 25 | F=28 H=31 | 4 | H=30 F=2A
    vector_line (0x25 ∷ []) (record power_on_regs { f = 0x28; h = 0x31 }) [] None (Took 4 ∷ [])
    (λ regs. record regs { r = 0x01; pc = 0x0001; h = 0x30; f = 0x2A }) [] ∷
    []
