-- For proofs: a line read from left to right, up to its first fault, as a function. A reader takes what is read from the relations of
-- Tokens.antt: that both are one is the law of OneReading.antt.
use Rattle.std.specs.Prelude.{◌≡◌, ℕ, zero, suc, ◌+◌, ◌-◌, Bool, true, List, [], ◌∷◌, ◌&&◌, take, drop, length}
use Rattle.std.specs.Prelude.{Option, Some, None, Result, Ok, Err, nat_lt, if◌then◌else◌}
use Rattle.std.specs.List.{prefix_len, list_all}
use Rattle.std.specs.Char.{is_ascii_digit, is_ascii_alphanumeric}
use Rattle.pac_lex.specs.declared.token.TokenKind.{TokenKind}
use Rattle.pac_lex.specs.declared.token.TokenKind.TheVariants.{Name, Number, Text, AlternateAf}
use Rattle.pac_lex.specs.declared.fault.LexFault.{LexFault}
use Rattle.pac_lex.specs.declared.fault.LexFault.TheVariants.{NoToken, WrongNumber, OpenText, LongLine}
use Rattle.pac_lex.specs.declared.fault.LexError.{LexError}
use Rattle.pac_lex.specs.declared.fault.LexError.TheVariants as errors
use Rattle.pac_lex.specs.Bytes.{is_blank, is_comment_start, is_quote, is_name_start, is_name_byte, is_printable}
use Rattle.pac_lex.specs.Numbers.{numeral}
use Rattle.pac_lex.specs.Results.{◌>>=◌}
use Rattle.pac_lex.specs.TextsProofs.{closing_length}
use Rattle.pac_lex.specs.Tokens.{Lexeme, one_byte_kind, is_af, begins, most_line_bytes}

-- What a function returned, seen by view, is what reading gives, unless memory ran out.
abbrev pub LexingFails : {Y : Type 0} → LexError → Result Y LexFault → Type 0
LexingFails errors.Memory read = Unit {0}
LexingFails (errors.Fault fault) read = read ≡ Err fault

abbrev pub LexingGives : {X Y : Type 0} → (X → Y) → Result X LexError → Result Y LexFault → Type 0
LexingGives view (Ok x) read = read ≡ Ok (view x)
LexingGives view (Err e) read = LexingFails e read

-- a fact of the fault, where there is one
abbrev pub OnLexFault : LexError → (LexFault → Type 0) → Type 0
OnLexFault errors.Memory P = Unit {0}
OnLexFault (errors.Fault fault) P = P fault

-- The kind and the length of the token that bytes begin with, or their fault.
abbrev pub FoundToken : Type 0
FoundToken = Result (TokenKind × ℕ) LexFault

abbrev pub one_byte_token : Option TokenKind → FoundToken
one_byte_token None = Err NoToken
one_byte_token (Some kind) = Ok (kind, 1)

abbrev pub numeral_token : Option ℕ → ℕ → FoundToken
numeral_token None len = Err WrongNumber
numeral_token (Some n) len = Ok (Number n, len)

unfoldable pub name_token_at : List ℕ → TokenKind × ℕ
name_token_at bytes = let len = prefix_len is_name_byte bytes in
    if is_af (take len bytes) && begins is_quote (drop len bytes) then (AlternateAf, len + 1) else (Name, len)

unfoldable pub number_token_at : List ℕ → FoundToken
number_token_at bytes = let len = prefix_len is_ascii_alphanumeric bytes in numeral_token (numeral (take len bytes)) len

abbrev pub quoted_token : Option ℕ → List ℕ → FoundToken
quoted_token None bytes = Err OpenText
quoted_token (Some len) bytes = if list_all is_printable (take len bytes) then Ok (Text, len + 1) else Err NoToken

-- a text, from the byte after its opening quote on
unfoldable pub text_token_at : List ℕ → FoundToken
text_token_at bytes = quoted_token (closing_length bytes) bytes

unfoldable pub token_at : List ℕ → FoundToken
token_at [] = Err NoToken
token_at (b ∷ bytes) =
    if is_name_start b then Ok (name_token_at (b ∷ bytes))
    else (if is_ascii_digit b then number_token_at (b ∷ bytes)
    else (if is_quote b then text_token_at bytes
    else one_byte_token (one_byte_kind b)))

-- nothing or a comment is left
abbrev pub is_end : List ℕ → Bool
is_end [] = true
is_end (b ∷ bytes) = is_comment_start b

-- a token, and the tokens after it
abbrev pub token_before : Lexeme → Result (List Lexeme) LexFault → Result (List Lexeme) LexFault
token_before token (Ok tokens) = Ok (token ∷ tokens)
token_before token (Err fault) = Err fault

-- the token of this kind that the first bytes are
abbrev pub cut_token : TokenKind → ℕ → List ℕ → Lexeme
cut_token kind len bytes = record { kind = kind; text = take len bytes }

-- the tokens after the next skipped bytes, which belong to a token already
unfoldable pub scan : ℕ → List ℕ → Result (List Lexeme) LexFault
scan skipped [] = Ok []
scan (suc skipped) (b ∷ bytes) = scan skipped bytes
scan zero (b ∷ bytes) =
    if is_blank b then scan zero bytes
    else (if is_comment_start b then Ok []
    else (token_at (b ∷ bytes) >>= λ found. token_before (cut_token found.0 found.1 (b ∷ bytes)) (scan (found.1 - 1) bytes)))

-- The tokens of a line. Determined by pac_lex::laws::each_line_has_one_reading.
unfoldable pub tokens_of : List ℕ → Result (List Lexeme) LexFault
tokens_of line = if nat_lt most_line_bytes (length line) then Err LongLine else scan 0 line
