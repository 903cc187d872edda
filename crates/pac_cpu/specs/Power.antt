-- Believed: the registers at power-on and after a reset (UM0080, "RESET"). That all are 0 at power-on, and that a reset
-- keeps what it doesn't clear, is this profile's.
use Rattle.std.specs.Prelude.{false}
use Rattle.pac_table.specs.declared.effects.InterruptMode.TheVariants.{Zero}
use Rattle.pac_exec.specs.declared.regs.Regs.{Regs}

-- at power-on
abbrev pub power_on_regs : Regs
power_on_regs =
    record {
      a = 0;
      f = 0;
      b = 0;
      c = 0;
      d = 0;
      e = 0;
      h = 0;
      l = 0;
      alternate = record { a = 0; f = 0; b = 0; c = 0; d = 0; e = 0; h = 0; l = 0 };
      ix = 0;
      iy = 0;
      sp = 0;
      pc = 0;
      i = 0;
      r = 0;
      iff1 = false;
      iff2 = false;
      mode = Zero;
      halted = false;
      after_ei = false;
    }

-- after a reset
abbrev pub reset_regs : Regs → Regs
reset_regs regs =
    record regs { pc = 0; i = 0; r = 0; mode = Zero; iff1 = false; iff2 = false; halted = false; after_ei = false }
