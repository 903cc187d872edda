-- Believed: what a step of assembling gives: what comes next, or what is wrong.
use Rattle.std.specs.Prelude.{ℕ, Result, Ok, Err}
pub use Rattle.pac_lex.specs.Results.{◌>>=◌}
use Rattle.pac_asm.specs.declared.fault.AsmCode.{AsmCode}
use Rattle.pac_asm.specs.declared.fault.AsmFault.{AsmFault}

-- the step of the line with this number
abbrev pub result_of_line : {A : Type 0} → ℕ → Result A AsmCode → Result A AsmFault
result_of_line number (Ok x) = Ok x
result_of_line number (Err code) = Err (record { code = code; line = number })
