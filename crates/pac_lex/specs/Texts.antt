-- Believed: texts of the source: characters in single quotes (this profile's source language).
use Rattle.std.specs.Prelude.{ℕ, List, [], ◌∷◌, ◌++◌, if◌then◌else◌}
use Rattle.std.specs.List.{flat_map}
use Rattle.pac_lex.specs.Bytes.{is_quote}

-- a character in a text: a quote is written twice
abbrev pub quoted_character : ℕ → List ℕ
quoted_character c = if is_quote c then 39 ∷ 39 ∷ [] else c ∷ []

-- how a text of these characters is written
abbrev pub quoted_text : List ℕ → List ℕ
quoted_text characters = 39 ∷ (flat_map quoted_character characters ++ 39 ∷ [])
