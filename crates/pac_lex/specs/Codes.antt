-- Believed: the codes that are printed for a fault (this profile).
use Rattle.std.specs.Prelude.{ℕ, List, codes}
use Rattle.pac_lex.specs.declared.fault.LexFault.{LexFault}
use Rattle.pac_lex.specs.declared.fault.LexFault.TheVariants.{NoToken, WrongNumber, OpenText, LongLine}

abbrev pub lex_fault_code : LexFault → List ℕ
lex_fault_code NoToken = codes "L1"
lex_fault_code WrongNumber = codes "L2"
lex_fault_code OpenText = codes "L3"
lex_fault_code LongLine = codes "L4"
