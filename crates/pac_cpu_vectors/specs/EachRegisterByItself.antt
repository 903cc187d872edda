-- Law: Each register by itself (UM0080, "8-Bit Load Group"). Made by tools/make/make-vectors from tools/check/vectors.txt.
use Rattle.std.specs.Prelude.{List, [], ◌∷◌, None}
use Rattle.pac_table.specs.declared.effects.InterruptMode.TheVariants.{One}
use Rattle.pac_bus.specs.Action.{Write}
use Rattle.pac_exec.specs.declared.regs.Regs.{Regs}
use Rattle.pac_cpu.specs.Power.{power_on_regs}
use Rattle.pac_cpu_vectors.specs.Vectors.{VectorLine, vector_line, Took}

abbrev usual_1 : Regs
usual_1 = record power_on_regs {
  a = 0x01;
  f = 0x02;
  b = 0x03;
  c = 0x04;
  d = 0x05;
  e = 0x06;
  h = 0x07;
  l = 0x08;
  ix = 0x1234;
  iy = 0x5678;
  sp = 0x4FF0;
  pc = 0x0100;
  i = 0x3F;
  r = 0x80;
  mode = One;
  alternate = record power_on_regs.alternate { a = 0x0B; f = 0x0C; b = 0x0D; c = 0x0E; d = 0x0F; e = 0x10; h = 0x11; l = 0x12 };
}

-- the lines of the table
abbrev pub each_register_by_itself_lines : List VectorLine
each_register_by_itself_lines =
    -- LD (4040H),A | 32 40 40 | | 13 | (4040)=01
    vector_line (0x32 ∷ 0x40 ∷ 0x40 ∷ []) usual_1 [] None (Took 13 ∷ [])
    (λ regs. record regs { r = 0x81; pc = 0x0103 }) (Write 0x4040 0x01 ∷ []) ∷
    -- LD B,67H | 06 67 | | 7 | B=67
    vector_line (0x06 ∷ 0x67 ∷ []) usual_1 [] None (Took 7 ∷ []) (λ regs. record regs { r = 0x81; pc = 0x0102; b = 0x67 }) [] ∷
    -- LD C,68H | 0E 68 | | 7 | C=68
    vector_line (0x0E ∷ 0x68 ∷ []) usual_1 [] None (Took 7 ∷ []) (λ regs. record regs { r = 0x81; pc = 0x0102; c = 0x68 }) [] ∷
    -- LD D,69H | 16 69 | | 7 | D=69
    vector_line (0x16 ∷ 0x69 ∷ []) usual_1 [] None (Took 7 ∷ []) (λ regs. record regs { r = 0x81; pc = 0x0102; d = 0x69 }) [] ∷
    -- LD E,6AH | 1E 6A | | 7 | E=6A
    vector_line (0x1E ∷ 0x6A ∷ []) usual_1 [] None (Took 7 ∷ []) (λ regs. record regs { r = 0x81; pc = 0x0102; e = 0x6A }) [] ∷
    -- LD H,6BH | 26 6B | | 7 | H=6B
    vector_line (0x26 ∷ 0x6B ∷ []) usual_1 [] None (Took 7 ∷ []) (λ regs. record regs { r = 0x81; pc = 0x0102; h = 0x6B }) [] ∷
    -- LD L,6CH | 2E 6C | | 7 | L=6C
    vector_line (0x2E ∷ 0x6C ∷ []) usual_1 [] None (Took 7 ∷ []) (λ regs. record regs { r = 0x81; pc = 0x0102; l = 0x6C }) [] ∷
    -- LD A,65H | 3E 65 | | 7 | A=65
    vector_line (0x3E ∷ 0x65 ∷ []) usual_1 [] None (Took 7 ∷ []) (λ regs. record regs { r = 0x81; pc = 0x0102; a = 0x65 }) [] ∷
    -- LD A,B | 78 | | 4 | A=03
    vector_line (0x78 ∷ []) usual_1 [] None (Took 4 ∷ []) (λ regs. record regs { r = 0x81; pc = 0x0101; a = 0x03 }) [] ∷
    -- LD A,C | 79 | | 4 | A=04
    vector_line (0x79 ∷ []) usual_1 [] None (Took 4 ∷ []) (λ regs. record regs { r = 0x81; pc = 0x0101; a = 0x04 }) [] ∷
    -- LD A,D | 7A | | 4 | A=05
    vector_line (0x7A ∷ []) usual_1 [] None (Took 4 ∷ []) (λ regs. record regs { r = 0x81; pc = 0x0101; a = 0x05 }) [] ∷
    -- LD A,E | 7B | | 4 | A=06
    vector_line (0x7B ∷ []) usual_1 [] None (Took 4 ∷ []) (λ regs. record regs { r = 0x81; pc = 0x0101; a = 0x06 }) [] ∷
    -- LD A,H | 7C | | 4 | A=07
    vector_line (0x7C ∷ []) usual_1 [] None (Took 4 ∷ []) (λ regs. record regs { r = 0x81; pc = 0x0101; a = 0x07 }) [] ∷
    -- LD A,L | 7D | | 4 | A=08
    vector_line (0x7D ∷ []) usual_1 [] None (Took 4 ∷ []) (λ regs. record regs { r = 0x81; pc = 0x0101; a = 0x08 }) [] ∷
    -- LD A,A | 7F | | 4 |
    vector_line (0x7F ∷ []) usual_1 [] None (Took 4 ∷ []) (λ regs. record regs { r = 0x81; pc = 0x0101 }) [] ∷
    -- LD B,A | 47 | | 4 | B=01
    vector_line (0x47 ∷ []) usual_1 [] None (Took 4 ∷ []) (λ regs. record regs { r = 0x81; pc = 0x0101; b = 0x01 }) [] ∷
    -- EX AF,AF' | 08 | | 4 | A=0B F=0C A'=01 F'=02
    vector_line (0x08 ∷ []) usual_1 [] None (Took 4 ∷ [])
    (λ regs. record regs { r = 0x81; pc = 0x0101; a = 0x0B; f = 0x0C; alternate = record regs.alternate { a = 0x01; f = 0x02 } }) [] ∷
    -- EXX | D9 | | 4 | BC=0D0E DE=0F10 HL=1112 BC'=0304 DE'=0506 HL'=0708
    vector_line (0xD9 ∷ []) usual_1 [] None (Took 4 ∷ [])
    (λ regs. record regs {
      r = 0x81;
      pc = 0x0101;
      b = 0x0D;
      c = 0x0E;
      d = 0x0F;
      e = 0x10;
      h = 0x11;
      l = 0x12;
      alternate = record regs.alternate { b = 0x03; c = 0x04; d = 0x05; e = 0x06; h = 0x07; l = 0x08 };
    }) [] ∷
    -- EX AF,AF'; EXX; EXX | 08 D9 D9 | | 4 4 4 | A=0B F=0C A'=01 F'=02 PC=0103 R=83
    vector_line (0x08 ∷ 0xD9 ∷ 0xD9 ∷ []) usual_1 [] None (Took 4 ∷ Took 4 ∷ Took 4 ∷ [])
    (λ regs. record regs { a = 0x0B; f = 0x0C; pc = 0x0103; r = 0x83; alternate = record regs.alternate { a = 0x01; f = 0x02 } }) [] ∷
    []
