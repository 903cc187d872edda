-- Law: Exchanges (UM0080, "Exchange, Block Transfer, and Search Group"). Made by tools/make/make-vectors from tools/check/vectors.txt.
use Rattle.std.specs.Prelude.{List, [], ◌∷◌, None}
use Rattle.pac_bus.specs.Action.{Write}
use Rattle.pac_exec.specs.declared.regs.Regs.{Regs}
use Rattle.pac_cpu.specs.Power.{power_on_regs}
use Rattle.pac_cpu_vectors.specs.Vectors.{VectorLine, vector_line, Took}

abbrev usual_1 : Regs
usual_1 = record power_on_regs { ix = 0x4380; iy = 0x4281 }

abbrev usual_2 : Regs
usual_2 = record power_on_regs { d = 0x28; e = 0x22; h = 0x70; l = 0x12; ix = 0x3988; iy = 0x3988 }

-- the lines of the table
abbrev pub exchanges_lines : List VectorLine
exchanges_lines =
    -- EX AF,AF' | 08 | A=0A F=FF BC=400C DE=410E HL=420D A'=11 F'=22 BC'=3344 DE'=5566 HL'=7788 | 4 | A=11 F=22 A'=0A F'=FF
    vector_line (0x08 ∷ []) (record usual_1 {
      a = 0x0A;
      f = 0xFF;
      b = 0x40;
      c = 0x0C;
      d = 0x41;
      e = 0x0E;
      h = 0x42;
      l = 0x0D;
      alternate = record usual_1.alternate { a = 0x11; f = 0x22; b = 0x33; c = 0x44; d = 0x55; e = 0x66; h = 0x77; l = 0x88 };
    }) [] None (Took 4 ∷ [])
    (λ regs. record regs { r = 0x01; pc = 0x0001; a = 0x11; f = 0x22; alternate = record regs.alternate { a = 0x0A; f = 0xFF } }) [] ∷
    -- EX AF,AF' | 08 | A=11 F=22 BC=400C DE=410E HL=420D A'=0A F'=FF BC'=3344 DE'=5566 HL'=7788 | 4 | A=0A F=FF A'=11 F'=22
    vector_line (0x08 ∷ []) (record usual_1 {
      a = 0x11;
      f = 0x22;
      b = 0x40;
      c = 0x0C;
      d = 0x41;
      e = 0x0E;
      h = 0x42;
      l = 0x0D;
      alternate = record usual_1.alternate { a = 0x0A; f = 0xFF; b = 0x33; c = 0x44; d = 0x55; e = 0x66; h = 0x77; l = 0x88 };
    }) [] None (Took 4 ∷ [])
    (λ regs. record regs { r = 0x01; pc = 0x0001; a = 0x0A; f = 0xFF; alternate = record regs.alternate { a = 0x11; f = 0x22 } }) [] ∷
    -- EXX | D9 | A=0A F=FF BC=400C DE=410E HL=420D A'=11 F'=22 BC'=3344 DE'=5566 HL'=7788 | 4 | BC=3344 DE=5566 HL=7788 BC'=400C DE'=410E
    -- HL'=420D
    vector_line (0xD9 ∷ []) (record usual_1 {
      a = 0x0A;
      f = 0xFF;
      b = 0x40;
      c = 0x0C;
      d = 0x41;
      e = 0x0E;
      h = 0x42;
      l = 0x0D;
      alternate = record usual_1.alternate { a = 0x11; f = 0x22; b = 0x33; c = 0x44; d = 0x55; e = 0x66; h = 0x77; l = 0x88 };
    }) [] None (Took 4 ∷ [])
    (λ regs. record regs {
      r = 0x01;
      pc = 0x0001;
      b = 0x33;
      c = 0x44;
      d = 0x55;
      e = 0x66;
      h = 0x77;
      l = 0x88;
      alternate = record regs.alternate { b = 0x40; c = 0x0C; d = 0x41; e = 0x0E; h = 0x42; l = 0x0D };
    }) [] ∷
    -- EXX | D9 | A=0A F=FF BC=3344 DE=5566 HL=7788 A'=11 F'=22 BC'=400C DE'=410E HL'=420D | 4 | BC=400C DE=410E HL=420D BC'=3344 DE'=5566
    -- HL'=7788
    vector_line (0xD9 ∷ []) (record usual_1 {
      a = 0x0A;
      f = 0xFF;
      b = 0x33;
      c = 0x44;
      d = 0x55;
      e = 0x66;
      h = 0x77;
      l = 0x88;
      alternate = record usual_1.alternate { a = 0x11; f = 0x22; b = 0x40; c = 0x0C; d = 0x41; e = 0x0E; h = 0x42; l = 0x0D };
    }) [] None (Took 4 ∷ [])
    (λ regs. record regs {
      r = 0x01;
      pc = 0x0001;
      b = 0x40;
      c = 0x0C;
      d = 0x41;
      e = 0x0E;
      h = 0x42;
      l = 0x0D;
      alternate = record regs.alternate { b = 0x33; c = 0x44; d = 0x55; e = 0x66; h = 0x77; l = 0x88 };
    }) [] ∷
    -- EX DE,HL | EB | SP=4E56 | 4 | DE=7012 HL=2822
    vector_line (0xEB ∷ []) (record usual_2 { sp = 0x4E56 }) [] None (Took 4 ∷ [])
    (λ regs. record regs { r = 0x01; pc = 0x0001; d = 0x70; e = 0x12; h = 0x28; l = 0x22 }) [] ∷
    -- EX (SP),HL | E3 | SP=4E56 (4E56)=11 (4E57)=22 | 19 | HL=2211 (4E57)=70 (4E56)=12
    vector_line (0xE3 ∷ []) (record usual_2 { sp = 0x4E56 }) (Write 0x4E57 0x22 ∷ Write 0x4E56 0x11 ∷ []) None (Took 19 ∷ [])
    (λ regs. record regs { r = 0x01; pc = 0x0001; h = 0x22; l = 0x11 }) (Write 0x4E57 0x70 ∷ Write 0x4E56 0x12 ∷ []) ∷
    -- EX (SP),HL | E3 | SP=4CFF (4CFF)=90 (4D00)=48 | 19 | HL=4890 (4D00)=70 (4CFF)=12
    vector_line (0xE3 ∷ []) (record usual_2 { sp = 0x4CFF }) (Write 0x4D00 0x48 ∷ Write 0x4CFF 0x90 ∷ []) None (Took 19 ∷ [])
    (λ regs. record regs { r = 0x01; pc = 0x0001; h = 0x48; l = 0x90 }) (Write 0x4D00 0x70 ∷ Write 0x4CFF 0x12 ∷ []) ∷
    -- EX (SP),HL | E3 | SP=FFFF PC=0100 (0000)=48 BLANKS=05 (FFFF)=FF | 19 | HL=48FF (0000)=70 (FFFF)=12 BLANKS=00
    vector_line (0xE3 ∷ []) (record usual_2 { sp = 0xFFFF; pc = 0x0100 }) (Write 0xFFFF 0xFF ∷ Write 0x0000 0x48 ∷ []) None (Took 19 ∷ [])
    (λ regs. record regs { r = 0x01; pc = 0x0101; h = 0x48; l = 0xFF }) (Write 0x0000 0x70 ∷ Write 0xFFFF 0x12 ∷ []) ∷
    -- EX (SP),HL | E3 | SP=5FFF (5FFF)=FF (6000)=48 BLANKS=05 | 19 | HL=48FF (6000)=70 (5FFF)=12 BLANKS=00
    vector_line (0xE3 ∷ []) (record usual_2 { sp = 0x5FFF }) (Write 0x6000 0x48 ∷ Write 0x5FFF 0xFF ∷ []) None (Took 19 ∷ [])
    (λ regs. record regs { r = 0x01; pc = 0x0001; h = 0x48; l = 0xFF }) (Write 0x6000 0x70 ∷ Write 0x5FFF 0x12 ∷ []) ∷
    -- EX (SP),IX | DD E3 | SP=4CFF (4CFF)=90 (4D00)=48 | 23 | IX=4890 (4D00)=39 (4CFF)=88
    vector_line (0xDD ∷ 0xE3 ∷ []) (record usual_2 { sp = 0x4CFF }) (Write 0x4D00 0x48 ∷ Write 0x4CFF 0x90 ∷ []) None (Took 23 ∷ [])
    (λ regs. record regs { r = 0x02; pc = 0x0002; ix = 0x4890 }) (Write 0x4D00 0x39 ∷ Write 0x4CFF 0x88 ∷ []) ∷
    -- EX (SP),IX | DD E3 | SP=FFFF PC=0100 (0000)=48 BLANKS=05 (FFFF)=FF | 23 | IX=48FF (0000)=39 (FFFF)=88 BLANKS=00
    vector_line (0xDD ∷ 0xE3 ∷ []) (record usual_2 { sp = 0xFFFF; pc = 0x0100 }) (Write 0xFFFF 0xFF ∷ Write 0x0000 0x48 ∷ []) None
    (Took 23 ∷ [])
    (λ regs. record regs { r = 0x02; pc = 0x0102; ix = 0x48FF }) (Write 0x0000 0x39 ∷ Write 0xFFFF 0x88 ∷ []) ∷
    -- EX (SP),IY | FD E3 | SP=4E56 (4E56)=11 (4E57)=22 | 23 | IY=2211 (4E57)=39 (4E56)=88
    vector_line (0xFD ∷ 0xE3 ∷ []) (record usual_2 { sp = 0x4E56 }) (Write 0x4E57 0x22 ∷ Write 0x4E56 0x11 ∷ []) None (Took 23 ∷ [])
    (λ regs. record regs { r = 0x02; pc = 0x0002; iy = 0x2211 }) (Write 0x4E57 0x39 ∷ Write 0x4E56 0x88 ∷ []) ∷
    []
