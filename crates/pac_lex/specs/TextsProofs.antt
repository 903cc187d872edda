-- For proofs: what proofs say of the definitions of Texts.antt.
use Rattle.std.specs.Prelude.{List, ℕ, Option, [], None, Some, option_map, ◌+◌, ◌∷◌, if◌then◌else◌, take, length, drop, ◌-◌, ◌&&◌, not}
use Rattle.pac_lex.specs.Bytes.{is_quote}

-- after an opening quote, how many bytes there are up to and with the closing one, if there is one
abbrev pub closing_length : List ℕ → Option ℕ
closing_length [] = None
closing_length (b ∷ []) = if is_quote b then Some 1 else None
closing_length (b ∷ c ∷ bytes) =
    if is_quote b then (if is_quote c then option_map (λ n. n + 2) (closing_length bytes) else Some 1)
    else option_map (λ n. n + 1) (closing_length (c ∷ bytes))

-- what stands between the quotes of a text
abbrev pub inside_quotes : List ℕ → List ℕ
inside_quotes text = take (length text - 2) (drop 1 text)

-- what follows a character in a text, after its first byte
abbrev pub after_character : ℕ → List ℕ → List ℕ
after_character c [] = []
after_character c (d ∷ bytes) = if is_quote c && is_quote d then bytes else d ∷ bytes

-- characters with each doubled quote as one
unfoldable pub unquoted_characters : List ℕ → List ℕ
unquoted_characters [] = []
unquoted_characters (b ∷ []) = b ∷ []
unquoted_characters (b ∷ c ∷ bytes) = b ∷ (if is_quote b && is_quote c then unquoted_characters bytes else unquoted_characters (c ∷ bytes))

-- The characters of a text, which stands here with its quotes: those between them, each doubled quote as one. Determined by
-- pac_lex::laws::texts_have_their_characters.
abbrev pub characters_of : List ℕ → List ℕ
characters_of text = unquoted_characters (inside_quotes text)

-- The character of a text of one. Determined by pac_lex::laws::texts_have_their_characters.
abbrev pub one_character : List ℕ → Option ℕ
one_character (a ∷ c ∷ z ∷ []) = if is_quote a && not (is_quote c) && is_quote z then Some c else None
one_character (a ∷ b ∷ c ∷ z ∷ []) = if is_quote a && is_quote b && is_quote c && is_quote z then Some 39 else None
one_character text = None
