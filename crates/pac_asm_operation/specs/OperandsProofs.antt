-- For proofs: what proofs say of the definitions of Operands.antt.
use Rattle.std.specs.Prelude.{Option, List, None, [], Some}
use Rattle.std.specs.Borrow.{Bor}
use Rattle.pac_lex.specs.declared.token.Token.{Token}
use Rattle.pac_lex.specs.Tokens.{Lexeme}
use Rattle.std.specs.List.{slice_split}
use Rattle.pac_asm_operation.specs.Operands.{is_comma}
use Rattle.pac_lex.specs.TokensProofs.{views}

-- the parts of what follows a comma, if there is one
abbrev pub parts_after : Option (Bor (List Token)) → List (List Lexeme)
parts_after None = []
parts_after (Some tokens) = slice_split is_comma (views tokens.now)
