-- For proofs: the code of a fault in two parts, what is wrong with a token and the rest.
use Rattle.std.specs.Prelude.{ℕ, List, Option, Some, None, codes}
use Rattle.pac_lex.specs.declared.fault.LexFault.{LexFault}
use Rattle.pac_asm.specs.declared.fault.AsmCode.{AsmCode}
use Rattle.pac_asm.specs.declared.fault.AsmCode.TheVariants.{Token}
use Rattle.pac_asm.specs.Codes.{asm_code_text}

-- what is wrong with a token, if that is what is wrong
abbrev pub fault_of_token : AsmCode → Option LexFault
fault_of_token (Token fault) = Some fault
fault_of_token code = None

-- the code, without what is wrong with a token
abbrev pub own_code : AsmCode → List ℕ
own_code (Token fault) = codes "A1"
own_code code = asm_code_text code
