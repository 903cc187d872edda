-- Law: Programs of a few steps (UM0080; this profile's EI, repeats and acceptances between them). Made by tools/make/make-vectors from
-- tools/check/vectors.txt.
use Rattle.std.specs.Prelude.{true, false, List, [], ◌∷◌, Some, None}
use Rattle.pac_table.specs.declared.effects.InterruptMode.TheVariants.{One, Two}
use Rattle.pac_bus.specs.Action.{Write}
use Rattle.pac_cpu.specs.Power.{power_on_regs}
use Rattle.pac_cpu_vectors.specs.Vectors.{VectorLine, vector_line, Took, TookHalted, TookAccepted}

-- the lines of the table
abbrev pub programs_of_a_few_steps_lines : List VectorLine
programs_of_a_few_steps_lines =
    -- LD A,42H; LD (4040H),A; HALT; halted | 3E 42 32 40 40 76 | | 7 13 4 4-halted | A=42 PC=0006 R=04 HALT=1 (4040)=42
    vector_line (0x3E ∷ 0x42 ∷ 0x32 ∷ 0x40 ∷ 0x40 ∷ 0x76 ∷ []) power_on_regs [] None (Took 7 ∷ Took 13 ∷ Took 4 ∷ TookHalted 4 ∷ [])
    (λ regs. record regs { a = 0x42; pc = 0x0006; r = 0x04; halted = true }) (Write 0x4040 0x42 ∷ []) ∷
    -- LD A,15H; ADD A,27H; DAA; LD SP,4FF0H; PUSH AF; HALT | 3E 15 C6 27 27 31 F0 4F F5 76 | | 7 7 4 10 11 4 | A=42 F=14 SP=4FEE PC=000A
    -- R=06 HALT=1 (4FEF)=42 (4FEE)=14
    vector_line (0x3E ∷ 0x15 ∷ 0xC6 ∷ 0x27 ∷ 0x27 ∷ 0x31 ∷ 0xF0 ∷ 0x4F ∷ 0xF5 ∷ 0x76 ∷ []) power_on_regs [] None
    (Took 7 ∷ Took 7 ∷ Took 4 ∷ Took 10 ∷ Took 11 ∷ Took 4 ∷ [])
    (λ regs. record regs { a = 0x42; f = 0x14; sp = 0x4FEE; pc = 0x000A; r = 0x06; halted = true })
    (Write 0x4FEF 0x42 ∷ Write 0x4FEE 0x14 ∷ []) ∷
    -- RST 38H at the last address; NOP | FF | PC=FFFF R=FF SP=4E02 (4E00)=55 (4E01)=55 | 11 4 | PC=0039 SP=4E00 R=81 (4E01)=00 (4E00)=00
    vector_line (0xFF ∷ []) (record power_on_regs { pc = 0xFFFF; r = 0xFF; sp = 0x4E02 }) (Write 0x4E01 0x55 ∷ Write 0x4E00 0x55 ∷ []) None
    (Took 11 ∷ Took 4 ∷ [])
    (λ regs. record regs { pc = 0x0039; sp = 0x4E00; r = 0x81 }) (Write 0x4E01 0x00 ∷ Write 0x4E00 0x00 ∷ []) ∷
    -- JP 1234H from the program ROM into RAM; NOP | C3 34 12 | PC=3FFF R=FF | 10 4 | PC=1235 R=81
    vector_line (0xC3 ∷ 0x34 ∷ 0x12 ∷ []) (record power_on_regs { pc = 0x3FFF; r = 0xFF }) [] None (Took 10 ∷ Took 4 ∷ [])
    (λ regs. record regs { pc = 0x1235; r = 0x81 }) [] ∷
    -- LDIR of two bytes | ED B0 | BC=0002 DE=4C00 PC=0100 (0000)=11 (0001)=22 | 21 16 | BC=0000 DE=4C02 HL=0002 PC=0102 R=04 (4C00)=11
    -- (4C01)=22
    vector_line (0xED ∷ 0xB0 ∷ []) (record power_on_regs {
      b = 0x00;
      c = 0x02;
      d = 0x4C;
      e = 0x00;
      pc = 0x0100;
    }) (Write 0x0001 0x22 ∷ Write 0x0000 0x11 ∷ []) None (Took 21 ∷ Took 16 ∷ [])
    (λ regs. record regs { b = 0x00; c = 0x00; d = 0x4C; e = 0x02; h = 0x00; l = 0x02; pc = 0x0102; r = 0x04 })
    (Write 0x4C00 0x11 ∷ Write 0x4C01 0x22 ∷ []) ∷
    -- LDIR, an acceptance between its repeats | ED B0 | BC=0002 DE=4C00 SP=4FF0 PC=0100 IFF1=1 IM=1 EI=1 INT=FF | 21 13-accepted | F=04
    -- BC=0001 DE=4C01 HL=0001 SP=4FEE PC=0038 R=03 IFF1=0 EI=0 (4C00)=00 (4FEF)=01 (4FEE)=00
    vector_line (0xED ∷ 0xB0 ∷ []) (record power_on_regs {
      b = 0x00;
      c = 0x02;
      d = 0x4C;
      e = 0x00;
      sp = 0x4FF0;
      pc = 0x0100;
      iff1 = true;
      mode = One;
      after_ei = true;
    }) [] (Some 0xFF) (Took 21 ∷ TookAccepted 13 ∷ [])
    (λ regs. record regs {
      f = 0x04;
      b = 0x00;
      c = 0x01;
      d = 0x4C;
      e = 0x01;
      h = 0x00;
      l = 0x01;
      sp = 0x4FEE;
      pc = 0x0038;
      r = 0x03;
      iff1 = false;
      after_ei = false;
    }) (Write 0x4C00 0x00 ∷ Write 0x4FEF 0x01 ∷ Write 0x4FEE 0x00 ∷ []) ∷
    -- EI; HALT; acceptance | FB 76 | I=3F SP=4FF0 IM=2 INT=FA (3FFB)=01 | 4 4 19-accepted | SP=4FEE PC=0100 R=03 (4FEF)=00 (4FEE)=02
    vector_line (0xFB ∷ 0x76 ∷ []) (record power_on_regs { i = 0x3F; sp = 0x4FF0; mode = Two }) (Write 0x3FFB 0x01 ∷ []) (Some 0xFA)
    (Took 4 ∷ Took 4 ∷ TookAccepted 19 ∷ [])
    (λ regs. record regs { sp = 0x4FEE; pc = 0x0100; r = 0x03 }) (Write 0x4FEF 0x00 ∷ Write 0x4FEE 0x02 ∷ []) ∷
    -- EI; EI; EI | FB FB FB | INT=FF | 4 4 4 | PC=0003 R=03 IFF1=1 IFF2=1 EI=1
    vector_line (0xFB ∷ 0xFB ∷ 0xFB ∷ []) power_on_regs [] (Some 0xFF) (Took 4 ∷ Took 4 ∷ Took 4 ∷ [])
    (λ regs. record regs { pc = 0x0003; r = 0x03; iff1 = true; iff2 = true; after_ei = true }) [] ∷
    -- NOP after EI; acceptance | 00 | SP=4FF0 PC=0002 IFF1=1 IM=1 EI=1 INT=00 | 4 13-accepted | SP=4FEE PC=0038 R=02 IFF1=0 EI=0 (4FEF)=00
    -- (4FEE)=03
    vector_line (0x00 ∷ []) (record power_on_regs { sp = 0x4FF0; pc = 0x0002; iff1 = true; mode = One; after_ei = true }) [] (Some 0x00)
    (Took 4 ∷ TookAccepted 13 ∷ [])
    (λ regs. record regs { sp = 0x4FEE; pc = 0x0038; r = 0x02; iff1 = false; after_ei = false })
    (Write 0x4FEF 0x00 ∷ Write 0x4FEE 0x03 ∷ []) ∷
    -- HALT after EI; acceptance | 76 | A=01 IX=0002 A'=09 SP=4FF0 PC=0100 I=3F R=02 IFF1=1 IFF2=1 IM=1 EI=1 INT=FF | 4 13-accepted |
    -- SP=4FEE PC=0038 R=04 IFF1=0 IFF2=0 EI=0 (4FEF)=01 (4FEE)=01
    vector_line (0x76 ∷ []) (record power_on_regs {
      a = 0x01;
      ix = 0x0002;
      sp = 0x4FF0;
      pc = 0x0100;
      i = 0x3F;
      r = 0x02;
      iff1 = true;
      iff2 = true;
      mode = One;
      after_ei = true;
      alternate = record power_on_regs.alternate { a = 0x09 };
    }) [] (Some 0xFF) (Took 4 ∷ TookAccepted 13 ∷ [])
    (λ regs. record regs { sp = 0x4FEE; pc = 0x0038; r = 0x04; iff1 = false; iff2 = false; after_ei = false })
    (Write 0x4FEF 0x01 ∷ Write 0x4FEE 0x01 ∷ []) ∷
    []
