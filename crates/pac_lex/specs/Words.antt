-- Believed: the words of a line, as input scripts and debugger commands have them, and the word that a source line begins
-- with.
use Rattle.std.specs.Prelude.{ℕ, true, List}
use Rattle.std.specs.List.{slice_split, filter, take_while}
use Rattle.pac_lex.specs.Bytes.{is_blank, is_name_byte, after_gap}
use Rattle.pac_lex.specs.Tokens.{begins}

-- the words of a line: what stands between its blanks, where that isn't empty
abbrev pub words_of_line : List ℕ → List (List ℕ)
words_of_line line = filter (begins (λ b. true)) (slice_split is_blank line)

-- the first word of a source line: after its blanks, the longest run of letters, digits and `_`, which may be empty
abbrev pub first_word : List ℕ → List ℕ
first_word line = take_while is_name_byte (after_gap line)
