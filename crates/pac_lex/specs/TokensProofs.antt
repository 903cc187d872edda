-- For proofs: what proofs say of the definitions of Tokens.antt.
use Rattle.pac_lex.specs.declared.token.Token.{Token}
use Rattle.pac_lex.specs.Tokens.{Lexeme}
use Rattle.std.specs.Prelude.{List, map}

abbrev pub view : Token → Lexeme
view token = record { kind = token.kind; text = token.text.now }

abbrev pub views : List Token → List Lexeme
views tokens = map view tokens
