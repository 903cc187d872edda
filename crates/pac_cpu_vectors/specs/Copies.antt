-- Law: Copies (UM0080, "Exchange, Block Transfer, and Search Group"). Made by tools/make/make-vectors from tools/check/vectors.txt.
use Rattle.std.specs.Prelude.{true, List, [], ◌∷◌, None}
use Rattle.pac_bus.specs.Action.{Action, Write}
use Rattle.pac_exec.specs.declared.regs.Regs.{Regs}
use Rattle.pac_cpu.specs.Power.{power_on_regs}
use Rattle.pac_cpu_vectors.specs.Vectors.{VectorLine, vector_line, Took}

abbrev usual_1 : Regs
usual_1 = record power_on_regs { h = 0x11; l = 0x11; pc = 0x0100 }

abbrev cells_1 : List Action
cells_1 = Write 0x1111 0x88 ∷ []

-- the lines of the table
abbrev pub copies_lines : List VectorLine
copies_lines =
    -- LDI | ED A0 | BC=0007 DE=4E22 | 16 | F=04 BC=0006 DE=4E23 HL=1112 (4E22)=88
    vector_line (0xED ∷ 0xA0 ∷ []) (record usual_1 { b = 0x00; c = 0x07; d = 0x4E; e = 0x22 }) cells_1 None (Took 16 ∷ [])
    (λ regs. record regs { r = 0x02; pc = 0x0102; f = 0x04; b = 0x00; c = 0x06; d = 0x4E; e = 0x23; h = 0x11; l = 0x12 })
    (Write 0x4E22 0x88 ∷ []) ∷
    -- LDI | ED A0 | F=FF BC=0001 DE=4E22 | 16 | F=E9 BC=0000 DE=4E23 HL=1112 (4E22)=88
    vector_line (0xED ∷ 0xA0 ∷ []) (record usual_1 { f = 0xFF; b = 0x00; c = 0x01; d = 0x4E; e = 0x22 }) cells_1 None (Took 16 ∷ [])
    (λ regs. record regs { r = 0x02; pc = 0x0102; f = 0xE9; b = 0x00; c = 0x00; d = 0x4E; e = 0x23; h = 0x11; l = 0x12 })
    (Write 0x4E22 0x88 ∷ []) ∷
    -- LDI | ED A0 | F=FF DE=4EFF | 16 | F=ED BC=FFFF DE=4F00 HL=1112 (4EFF)=88
    vector_line (0xED ∷ 0xA0 ∷ []) (record usual_1 { f = 0xFF; d = 0x4E; e = 0xFF }) cells_1 None (Took 16 ∷ [])
    (λ regs. record regs { r = 0x02; pc = 0x0102; f = 0xED; b = 0xFF; c = 0xFF; d = 0x4F; e = 0x00; h = 0x11; l = 0x12 })
    (Write 0x4EFF 0x88 ∷ []) ∷
    -- LDI | ED A0 | F=FF DE=FFFF BLANKS=05 | 16 | F=ED BC=FFFF DE=0000 HL=1112 (FFFF)=88 BLANKS=00
    vector_line (0xED ∷ 0xA0 ∷ []) (record usual_1 { f = 0xFF; d = 0xFF; e = 0xFF }) cells_1 None (Took 16 ∷ [])
    (λ regs. record regs { r = 0x02; pc = 0x0102; f = 0xED; b = 0xFF; c = 0xFF; d = 0x00; e = 0x00; h = 0x11; l = 0x12 })
    (Write 0xFFFF 0x88 ∷ []) ∷
    -- LDD | ED A8 | F=12 BC=0100 DE=4E22 | 16 | F=04 BC=00FF DE=4E21 HL=1110 (4E22)=88
    vector_line (0xED ∷ 0xA8 ∷ []) (record usual_1 { f = 0x12; b = 0x01; c = 0x00; d = 0x4E; e = 0x22 }) cells_1 None (Took 16 ∷ [])
    (λ regs. record regs { r = 0x02; pc = 0x0102; f = 0x04; b = 0x00; c = 0xFF; d = 0x4E; e = 0x21; h = 0x11; l = 0x10 })
    (Write 0x4E22 0x88 ∷ []) ∷
    -- LDD | ED A8 | BC=0001 DE=4E00 | 16 | BC=0000 DE=4DFF HL=1110 (4E00)=88
    vector_line (0xED ∷ 0xA8 ∷ []) (record usual_1 { b = 0x00; c = 0x01; d = 0x4E; e = 0x00 }) cells_1 None (Took 16 ∷ [])
    (λ regs. record regs { r = 0x02; pc = 0x0102; b = 0x00; c = 0x00; d = 0x4D; e = 0xFF; h = 0x11; l = 0x10 }) (Write 0x4E00 0x88 ∷ []) ∷
    -- LDD | ED A8 | BC=0001 | 16 | BC=0000 DE=FFFF HL=1110 (0000)=88
    vector_line (0xED ∷ 0xA8 ∷ []) (record usual_1 { b = 0x00; c = 0x01 }) cells_1 None (Took 16 ∷ [])
    (λ regs. record regs { r = 0x02; pc = 0x0102; b = 0x00; c = 0x00; d = 0xFF; e = 0xFF; h = 0x11; l = 0x10 }) (Write 0x0000 0x88 ∷ []) ∷
    -- LDIR | ED B0 | BC=0007 DE=4E22 | 21 | F=04 BC=0006 DE=4E23 HL=1112 PC=0100 (4E22)=88
    vector_line (0xED ∷ 0xB0 ∷ []) (record usual_1 { b = 0x00; c = 0x07; d = 0x4E; e = 0x22 }) cells_1 None (Took 21 ∷ [])
    (λ regs. record regs { r = 0x02; pc = 0x0100; f = 0x04; b = 0x00; c = 0x06; d = 0x4E; e = 0x23; h = 0x11; l = 0x12 })
    (Write 0x4E22 0x88 ∷ []) ∷
    -- LDIR | ED B0 | BC=0001 DE=4E22 | 16 | BC=0000 DE=4E23 HL=1112 (4E22)=88
    vector_line (0xED ∷ 0xB0 ∷ []) (record usual_1 { b = 0x00; c = 0x01; d = 0x4E; e = 0x22 }) cells_1 None (Took 16 ∷ [])
    (λ regs. record regs { r = 0x02; pc = 0x0102; b = 0x00; c = 0x00; d = 0x4E; e = 0x23; h = 0x11; l = 0x12 }) (Write 0x4E22 0x88 ∷ []) ∷
    -- LDIR | ED B0 | DE=4E22 | 21 | F=04 BC=FFFF DE=4E23 HL=1112 PC=0100 (4E22)=88
    vector_line (0xED ∷ 0xB0 ∷ []) (record usual_1 { d = 0x4E; e = 0x22 }) cells_1 None (Took 21 ∷ [])
    (λ regs. record regs { r = 0x02; pc = 0x0100; f = 0x04; b = 0xFF; c = 0xFF; d = 0x4E; e = 0x23; h = 0x11; l = 0x12 })
    (Write 0x4E22 0x88 ∷ []) ∷
    -- LDDR | ED B8 | BC=0007 DE=4E22 | 21 | F=04 BC=0006 DE=4E21 HL=1110 PC=0100 (4E22)=88
    vector_line (0xED ∷ 0xB8 ∷ []) (record usual_1 { b = 0x00; c = 0x07; d = 0x4E; e = 0x22 }) cells_1 None (Took 21 ∷ [])
    (λ regs. record regs { r = 0x02; pc = 0x0100; f = 0x04; b = 0x00; c = 0x06; d = 0x4E; e = 0x21; h = 0x11; l = 0x10 })
    (Write 0x4E22 0x88 ∷ []) ∷
    -- LDDR | ED B8 | BC=0001 DE=4E22 | 16 | BC=0000 DE=4E21 HL=1110 (4E22)=88
    vector_line (0xED ∷ 0xB8 ∷ []) (record usual_1 { b = 0x00; c = 0x01; d = 0x4E; e = 0x22 }) cells_1 None (Took 16 ∷ [])
    (λ regs. record regs { r = 0x02; pc = 0x0102; b = 0x00; c = 0x00; d = 0x4E; e = 0x21; h = 0x11; l = 0x10 }) (Write 0x4E22 0x88 ∷ []) ∷
    -- LDIR | ED B0 | BC=0002 DE=4C00 SP=4FF0 PC=0100 IFF1=1 (0000)=11 (0001)=22 (0002)=33 | 21 | F=04 BC=0001 DE=4C01 HL=0001 PC=0100
    -- (4C00)=11
    vector_line (0xED ∷ 0xB0 ∷ []) (record power_on_regs {
      b = 0x00;
      c = 0x02;
      d = 0x4C;
      e = 0x00;
      sp = 0x4FF0;
      pc = 0x0100;
      iff1 = true;
    }) (Write 0x0002 0x33 ∷ Write 0x0001 0x22 ∷ Write 0x0000 0x11 ∷ []) None (Took 21 ∷ [])
    (λ regs. record regs { r = 0x02; pc = 0x0100; f = 0x04; b = 0x00; c = 0x01; d = 0x4C; e = 0x01; h = 0x00; l = 0x01 })
    (Write 0x4C00 0x11 ∷ []) ∷
    -- LDIR | ED B0 | F=04 BC=0001 DE=4C01 HL=0001 SP=4FF0 PC=0100 IFF1=1 (0000)=11 (0001)=22 (0002)=33 (4C00)=11 | 16 | F=00 BC=0000
    -- DE=4C02 HL=0002 (4C01)=22
    vector_line (0xED ∷ 0xB0 ∷ []) (record power_on_regs {
      f = 0x04;
      b = 0x00;
      c = 0x01;
      d = 0x4C;
      e = 0x01;
      h = 0x00;
      l = 0x01;
      sp = 0x4FF0;
      pc = 0x0100;
      iff1 = true;
    }) (Write 0x4C00 0x11 ∷ Write 0x0002 0x33 ∷ Write 0x0001 0x22 ∷ Write 0x0000 0x11 ∷ []) None (Took 16 ∷ [])
    (λ regs. record regs { r = 0x02; pc = 0x0102; f = 0x00; b = 0x00; c = 0x00; d = 0x4C; e = 0x02; h = 0x00; l = 0x02 })
    (Write 0x4C01 0x22 ∷ []) ∷
    -- LDIR from the program ROM into RAM | ED B0 | BC=0002 DE=4C00 PC=3FFF (0000)=B0 | 21 | F=04 BC=0001 DE=4C01 HL=0001 PC=3FFF (4C00)=B0
    vector_line (0xED ∷ 0xB0 ∷ []) (record power_on_regs {
      b = 0x00;
      c = 0x02;
      d = 0x4C;
      e = 0x00;
      pc = 0x3FFF;
    }) (Write 0x0000 0xB0 ∷ []) None (Took 21 ∷ [])
    (λ regs. record regs { r = 0x02; pc = 0x3FFF; f = 0x04; b = 0x00; c = 0x01; d = 0x4C; e = 0x01; h = 0x00; l = 0x01 })
    (Write 0x4C00 0xB0 ∷ []) ∷
    []
