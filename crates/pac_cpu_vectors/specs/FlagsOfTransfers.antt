-- Law: Flags of transfers (UM0080, "8-Bit Load Group", "Exchange, Block Transfer, and Search Group", "Input and Output Group"). Made by
-- tools/make/make-vectors from tools/check/vectors.txt.
use Rattle.std.specs.Prelude.{true, List, [], ◌∷◌, None}
use Rattle.pac_bus.specs.Action.{Write}
use Rattle.pac_cpu.specs.Power.{power_on_regs}
use Rattle.pac_cpu_vectors.specs.Vectors.{VectorLine, vector_line, Took}

-- the lines of the table
abbrev pub flags_of_transfers_lines : List VectorLine
flags_of_transfers_lines =
    -- LD A,I | ED 57 | A=55 I=02 | 9 | A=02
    vector_line (0xED ∷ 0x57 ∷ []) (record power_on_regs { a = 0x55; i = 0x02 }) [] None (Took 9 ∷ [])
    (λ regs. record regs { r = 0x02; pc = 0x0002; a = 0x02 }) [] ∷
    -- LD A,I | ED 57 | A=55 F=16 | 9 | A=00 F=40
    vector_line (0xED ∷ 0x57 ∷ []) (record power_on_regs { a = 0x55; f = 0x16 }) [] None (Took 9 ∷ [])
    (λ regs. record regs { r = 0x02; pc = 0x0002; a = 0x00; f = 0x40 }) [] ∷
    -- LD A,I | ED 57 | A=55 F=FF I=80 IFF2=1 | 9 | A=80 F=AD
    vector_line (0xED ∷ 0x57 ∷ []) (record power_on_regs { a = 0x55; f = 0xFF; i = 0x80; iff2 = true }) [] None (Took 9 ∷ [])
    (λ regs. record regs { r = 0x02; pc = 0x0002; a = 0x80; f = 0xAD }) [] ∷
    -- LDI | ED A0 | BC=0002 DE=4E22 HL=1111 (1111)=88 | 16 | F=04 BC=0001 DE=4E23 HL=1112 (4E22)=88
    vector_line (0xED ∷ 0xA0 ∷ []) (record power_on_regs {
      b = 0x00;
      c = 0x02;
      d = 0x4E;
      e = 0x22;
      h = 0x11;
      l = 0x11;
    }) (Write 0x1111 0x88 ∷ []) None (Took 16 ∷ [])
    (λ regs. record regs { r = 0x02; pc = 0x0002; f = 0x04; b = 0x00; c = 0x01; d = 0x4E; e = 0x23; h = 0x11; l = 0x12 })
    (Write 0x4E22 0x88 ∷ []) ∷
    -- LDI | ED A0 | F=FF BC=0001 DE=4E22 HL=1111 (1111)=88 | 16 | F=E9 BC=0000 DE=4E23 HL=1112 (4E22)=88
    vector_line (0xED ∷ 0xA0 ∷ []) (record power_on_regs {
      f = 0xFF;
      b = 0x00;
      c = 0x01;
      d = 0x4E;
      e = 0x22;
      h = 0x11;
      l = 0x11;
    }) (Write 0x1111 0x88 ∷ []) None (Took 16 ∷ [])
    (λ regs. record regs { r = 0x02; pc = 0x0002; f = 0xE9; b = 0x00; c = 0x00; d = 0x4E; e = 0x23; h = 0x11; l = 0x12 })
    (Write 0x4E22 0x88 ∷ []) ∷
    -- LDI | ED A0 | F=C1 DE=4E22 HL=1111 (1111)=88 | 16 | F=C5 BC=FFFF DE=4E23 HL=1112 (4E22)=88
    vector_line (0xED ∷ 0xA0 ∷ []) (record power_on_regs { f = 0xC1; d = 0x4E; e = 0x22; h = 0x11; l = 0x11 }) (Write 0x1111 0x88 ∷ []) None
    (Took 16 ∷ [])
    (λ regs. record regs { r = 0x02; pc = 0x0002; f = 0xC5; b = 0xFF; c = 0xFF; d = 0x4E; e = 0x23; h = 0x11; l = 0x12 })
    (Write 0x4E22 0x88 ∷ []) ∷
    -- CPI | ED A1 | A=3B BC=0001 HL=1111 (1111)=3B | 16 | F=42 BC=0000 HL=1112
    vector_line (0xED ∷ 0xA1 ∷ []) (record power_on_regs { a = 0x3B; b = 0x00; c = 0x01; h = 0x11; l = 0x11 }) (Write 0x1111 0x3B ∷ []) None
    (Took 16 ∷ [])
    (λ regs. record regs { r = 0x02; pc = 0x0002; f = 0x42; b = 0x00; c = 0x00; h = 0x11; l = 0x12 }) [] ∷
    -- CPI | ED A1 | A=3B F=01 BC=0006 HL=1111 (1111)=3C | 16 | F=97 BC=0005 HL=1112
    vector_line (0xED ∷ 0xA1 ∷ []) (record power_on_regs {
      a = 0x3B;
      f = 0x01;
      b = 0x00;
      c = 0x06;
      h = 0x11;
      l = 0x11;
    }) (Write 0x1111 0x3C ∷ []) None (Took 16 ∷ [])
    (λ regs. record regs { r = 0x02; pc = 0x0002; f = 0x97; b = 0x00; c = 0x05; h = 0x11; l = 0x12 }) [] ∷
    -- CPI | ED A1 | A=80 BC=0001 HL=1111 (1111)=01 | 16 | F=12 BC=0000 HL=1112
    vector_line (0xED ∷ 0xA1 ∷ []) (record power_on_regs { a = 0x80; b = 0x00; c = 0x01; h = 0x11; l = 0x11 }) (Write 0x1111 0x01 ∷ []) None
    (Took 16 ∷ [])
    (λ regs. record regs { r = 0x02; pc = 0x0002; f = 0x12; b = 0x00; c = 0x00; h = 0x11; l = 0x12 }) [] ∷
    -- CPI | ED A1 | A=20 F=FF BC=0002 HL=1111 (1111)=10 | 16 | F=2F BC=0001 HL=1112
    vector_line (0xED ∷ 0xA1 ∷ []) (record power_on_regs {
      a = 0x20;
      f = 0xFF;
      b = 0x00;
      c = 0x02;
      h = 0x11;
      l = 0x11;
    }) (Write 0x1111 0x10 ∷ []) None (Took 16 ∷ [])
    (λ regs. record regs { r = 0x02; pc = 0x0002; f = 0x2F; b = 0x00; c = 0x01; h = 0x11; l = 0x12 }) [] ∷
    -- INI | ED A2 | BC=0107 HL=4D00 | 16 | F=42 BC=0007 HL=4D01 (4D00)=FF
    vector_line (0xED ∷ 0xA2 ∷ []) (record power_on_regs { b = 0x01; c = 0x07; h = 0x4D; l = 0x00 }) [] None (Took 16 ∷ [])
    (λ regs. record regs { r = 0x02; pc = 0x0002; f = 0x42; b = 0x00; c = 0x07; h = 0x4D; l = 0x01 }) (Write 0x4D00 0xFF ∷ []) ∷
    -- INI | ED A2 | F=FF BC=0207 HL=4D00 | 16 | F=BF BC=0107 HL=4D01 (4D00)=FF
    vector_line (0xED ∷ 0xA2 ∷ []) (record power_on_regs { f = 0xFF; b = 0x02; c = 0x07; h = 0x4D; l = 0x00 }) [] None (Took 16 ∷ [])
    (λ regs. record regs { r = 0x02; pc = 0x0002; f = 0xBF; b = 0x01; c = 0x07; h = 0x4D; l = 0x01 }) (Write 0x4D00 0xFF ∷ []) ∷
    -- INI | ED A2 | F=41 BC=0007 HL=4D00 | 16 | F=03 BC=FF07 HL=4D01 (4D00)=FF
    vector_line (0xED ∷ 0xA2 ∷ []) (record power_on_regs { f = 0x41; b = 0x00; c = 0x07; h = 0x4D; l = 0x00 }) [] None (Took 16 ∷ [])
    (λ regs. record regs { r = 0x02; pc = 0x0002; f = 0x03; b = 0xFF; c = 0x07; h = 0x4D; l = 0x01 }) (Write 0x4D00 0xFF ∷ []) ∷
    []
