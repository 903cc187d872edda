-- Believed: what is printed for a fault of a source (this profile).
use Rattle.std.specs.Prelude.{ℕ, List, ◌++◌, codes}
use Rattle.std.specs.Fmt.{decimal}
use Rattle.pac_lex.specs.Codes as lexing
use Rattle.pac_asm.specs.declared.fault.AsmCode.{AsmCode}
use Rattle.pac_asm.specs.declared.fault.AsmCode.TheVariants.{Token, Syntax, DefinedBefore, NotDefinedAbove, OutsideRom, Overlap}
use Rattle.pac_asm.specs.declared.fault.AsmCode.TheVariants.{TooManyLines, Undefined, OutOfRange, Arithmetic, TooDeep, NoOpenIf}
use Rattle.pac_asm.specs.declared.fault.AsmCode.TheVariants.{NeverClosed}
use Rattle.pac_asm.specs.declared.fault.AsmFault.{AsmFault}

-- what is wrong, as a code; that of a token has the code of what is wrong with it
abbrev pub asm_code_text : AsmCode → List ℕ
asm_code_text (Token fault) = codes "A1 " ++ lexing.lex_fault_code fault
asm_code_text Syntax = codes "A2"
asm_code_text DefinedBefore = codes "A3"
asm_code_text NotDefinedAbove = codes "A4"
asm_code_text OutsideRom = codes "A5"
asm_code_text Overlap = codes "A6"
asm_code_text TooManyLines = codes "A7"
asm_code_text Undefined = codes "A8"
asm_code_text OutOfRange = codes "A9"
asm_code_text Arithmetic = codes "A10"
asm_code_text TooDeep = codes "A12"
asm_code_text NoOpenIf = codes "A13"
asm_code_text NeverClosed = codes "A14"

-- a fault: its code, and its line as a decimal number
abbrev pub asm_fault_text : AsmFault → List ℕ
asm_fault_text fault = asm_code_text fault.code ++ codes " line " ++ decimal fault.line
