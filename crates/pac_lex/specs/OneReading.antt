-- Believed: the law that one answer is right for each line, and which: so a reader takes what is read from the relations of
-- Tokens.antt and from how a text is written, and needn't know how Scan.antt and Texts.antt find it.
use Rattle.std.specs.Prelude.{◌≡◌, ◌↔◌, ℕ, List, [], ◌∷◌, Some, Result, Ok, Err}
use Rattle.pac_lex.specs.declared.fault.LexFault.{LexFault}
use Rattle.pac_lex.specs.Texts.{quoted_text}
use Rattle.pac_lex.specs.TextsProofs.{characters_of, one_character}
use Rattle.pac_lex.specs.Tokens.{Lexeme, IsRead, HasLexFault}
use Rattle.pac_lex.specs.Scan.{tokens_of}

-- an answer that is right for a line: the tokens as which it is read, or the fault that it has
abbrev pub IsReading : List ℕ → Result (List Lexeme) LexFault → Type 0
IsReading line (Ok tokens) = IsRead line tokens
IsReading line (Err fault) = HasLexFault line fault

-- for each line one answer is right, and it is the one that the function gives
abbrev pub EachLineHasOneReading : Type 0
EachLineHasOneReading = (line : List ℕ) (answer : Result (List Lexeme) LexFault) → (tokens_of line ≡ answer) ↔ IsReading line answer

-- a text that is written with these characters has them and no others; and one character where it is written with one
pub record TextsHaveTheirCharacters : Type 0 where
  pub all : (characters : List ℕ) → characters_of (quoted_text characters) ≡ characters
  pub one : (text : List ℕ) (c : ℕ) → (one_character text ≡ Some c) ↔ (text ≡ quoted_text (c ∷ []))
