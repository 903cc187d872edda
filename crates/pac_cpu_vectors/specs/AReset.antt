-- Law: A reset (UM0080, "Pin Functions"; this profile where it names no register). Made by tools/make/make-vectors from
-- tools/check/vectors.txt.
use Rattle.std.specs.Prelude.{true, false, List, [], ◌∷◌}
use Rattle.pac_table.specs.declared.effects.InterruptMode.TheVariants.{Zero, One, Two}
use Rattle.pac_exec.specs.declared.regs.Regs.{Regs}
use Rattle.pac_cpu.specs.Power.{power_on_regs}
use Rattle.pac_cpu_vectors.specs.Vectors.{ResetLine, reset_line}

abbrev usual_1 : Regs
usual_1 = record power_on_regs {
  a = 0x01;
  f = 0x02;
  b = 0x03;
  c = 0x04;
  d = 0x05;
  e = 0x06;
  h = 0x07;
  l = 0x08;
  ix = 0x0002;
  iy = 0x5678;
  sp = 0x4FF0;
  pc = 0x0100;
  i = 0x3F;
  r = 0x82;
  mode = One;
  alternate = record power_on_regs.alternate { a = 0x09; f = 0x0C; b = 0x0D; c = 0x0E; d = 0x0F; e = 0x10; h = 0x11; l = 0x12 };
}

-- the lines of the table
abbrev pub a_reset_lines : List ResetLine
a_reset_lines =
    -- after EI | 00 | IFF1=1 IFF2=1 EI=1 | reset | PC=0000 I=00 R=00 IM=0 IFF1=0 IFF2=0 EI=0
    reset_line (record usual_1 { iff1 = true; iff2 = true; after_ei = true })
    (λ regs. record regs { pc = 0x0000; i = 0x00; r = 0x00; mode = Zero; iff1 = false; iff2 = false; after_ei = false }) ∷
    -- halted | 76 | IFF2=1 HALT=1 IM=2 | reset | PC=0000 I=00 R=00 IM=0 IFF2=0 HALT=0
    reset_line (record usual_1 { iff2 = true; halted = true; mode = Two })
    (λ regs. record regs { pc = 0x0000; i = 0x00; r = 0x00; mode = Zero; iff2 = false; halted = false }) ∷
    -- with a request | 00 | IFF1=1 INT=FF BLANKS=05 | reset | PC=0000 I=00 R=00 IM=0 IFF1=0 BLANKS=00
    reset_line (record usual_1 { iff1 = true })
    (λ regs. record regs { pc = 0x0000; i = 0x00; r = 0x00; mode = Zero; iff1 = false }) ∷
    []
