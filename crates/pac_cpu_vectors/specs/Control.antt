-- Law: Control (UM0080, "General-Purpose Arithmetic and CPU Control Groups") and the loads of I and R. Made by tools/make/make-vectors from
-- tools/check/vectors.txt.
use Rattle.std.specs.Prelude.{true, false, List, [], ◌∷◌, None}
use Rattle.pac_table.specs.declared.effects.InterruptMode.TheVariants.{Zero, One, Two}
use Rattle.pac_exec.specs.declared.regs.Regs.{Regs}
use Rattle.pac_cpu.specs.Power.{power_on_regs}
use Rattle.pac_cpu_vectors.specs.Vectors.{VectorLine, vector_line, Took}

abbrev usual_1 : Regs
usual_1 = record power_on_regs {
  a = 0x0A;
  f = 0xFF;
  b = 0x40;
  c = 0x0C;
  d = 0x41;
  e = 0x0E;
  h = 0x42;
  l = 0x0D;
  ix = 0x4380;
  iy = 0x4281;
}

abbrev usual_2 : Regs
usual_2 = record power_on_regs { a = 0x55 }

-- the lines of the table
abbrev pub control_lines : List VectorLine
control_lines =
    -- HALT | 76 | IFF1=1 IFF2=1 | 4 | HALT=1
    vector_line (0x76 ∷ []) (record usual_1 { iff1 = true; iff2 = true }) [] None (Took 4 ∷ [])
    (λ regs. record regs { r = 0x01; pc = 0x0001; halted = true }) [] ∷
    -- DI | F3 | IFF1=1 IFF2=1 | 4 | IFF1=0 IFF2=0
    vector_line (0xF3 ∷ []) (record usual_1 { iff1 = true; iff2 = true }) [] None (Took 4 ∷ [])
    (λ regs. record regs { r = 0x01; pc = 0x0001; iff1 = false; iff2 = false }) [] ∷
    -- EI | FB | | 4 | IFF1=1 IFF2=1 EI=1
    vector_line (0xFB ∷ []) usual_1 [] None (Took 4 ∷ [])
    (λ regs. record regs { r = 0x01; pc = 0x0001; iff1 = true; iff2 = true; after_ei = true }) [] ∷
    -- IM 0 | ED 46 | IM=2 | 8 | IM=0
    vector_line (0xED ∷ 0x46 ∷ []) (record usual_1 { mode = Two }) [] None (Took 8 ∷ [])
    (λ regs. record regs { r = 0x02; pc = 0x0002; mode = Zero }) [] ∷
    -- IM 1 | ED 56 | | 8 | IM=1
    vector_line (0xED ∷ 0x56 ∷ []) usual_1 [] None (Took 8 ∷ []) (λ regs. record regs { r = 0x02; pc = 0x0002; mode = One }) [] ∷
    -- IM 2 | ED 5E | | 8 | IM=2
    vector_line (0xED ∷ 0x5E ∷ []) usual_1 [] None (Took 8 ∷ []) (λ regs. record regs { r = 0x02; pc = 0x0002; mode = Two }) [] ∷
    -- LD A,I | ED 57 | F=FF R=90 IFF2=1 | 9 | A=00 F=6D
    vector_line (0xED ∷ 0x57 ∷ []) (record usual_2 { f = 0xFF; r = 0x90; iff2 = true }) [] None (Took 9 ∷ [])
    (λ regs. record regs { r = 0x92; pc = 0x0002; a = 0x00; f = 0x6D }) [] ∷
    -- LD A,I | ED 57 | I=3F IFF1=1 | 9 | A=3F
    vector_line (0xED ∷ 0x57 ∷ []) (record usual_2 { i = 0x3F; iff1 = true }) [] None (Took 9 ∷ [])
    (λ regs. record regs { r = 0x02; pc = 0x0002; a = 0x3F }) [] ∷
    -- LD A,R | ED 5F | F=FF R=90 IFF2=1 | 9 | A=92 F=AD
    vector_line (0xED ∷ 0x5F ∷ []) (record usual_2 { f = 0xFF; r = 0x90; iff2 = true }) [] None (Took 9 ∷ [])
    (λ regs. record regs { r = 0x92; pc = 0x0002; a = 0x92; f = 0xAD }) [] ∷
    -- LD A,R | ED 5F | I=3F IFF1=1 | 9 | A=02
    vector_line (0xED ∷ 0x5F ∷ []) (record usual_2 { i = 0x3F; iff1 = true }) [] None (Took 9 ∷ [])
    (λ regs. record regs { r = 0x02; pc = 0x0002; a = 0x02 }) [] ∷
    -- LD I,A | ED 47 | F=FF R=90 IFF2=1 | 9 | I=55
    vector_line (0xED ∷ 0x47 ∷ []) (record usual_2 { f = 0xFF; r = 0x90; iff2 = true }) [] None (Took 9 ∷ [])
    (λ regs. record regs { r = 0x92; pc = 0x0002; i = 0x55 }) [] ∷
    -- LD R,A | ED 4F | F=FF R=90 IFF2=1 | 9 | R=55
    vector_line (0xED ∷ 0x4F ∷ []) (record usual_2 { f = 0xFF; r = 0x90; iff2 = true }) [] None (Took 9 ∷ [])
    (λ regs. record regs { r = 0x55; pc = 0x0002 }) [] ∷
    []
