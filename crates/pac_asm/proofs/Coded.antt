-- The text of a code, by its parts.
use Rattle.pac_asm.proofs.Common.{AsmCode, LexFault, None, Some, asm_code_text, codes, fault_of_token, lex_fault_code, own_code, rules}
use Rattle.pac_asm.proofs.Common.{◌++◌, ◌≡◌}

pub own-text : (code : AsmCode) → fault_of_token code ≡ None → asm_code_text code ≡ own_code code
own-text code e = search rules

pub token-text : (code : AsmCode) (fault : LexFault) → fault_of_token code ≡ Some fault → asm_code_text code ≡ codes "A1 " ++ lex_fault_code fault
token-text code fault e = search rules

-- what the printing cites
pub ruleset coded = (own-text, token-text)
