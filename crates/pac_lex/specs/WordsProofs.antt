-- For proofs: what proofs say of the definitions of Words.antt.
use Rattle.std.specs.Prelude.{List, ℕ, not, drop, Option, length, None, Some, ◌==◌, if◌then◌else◌}
use Rattle.std.specs.List.{take_while, prefix_len}
use Rattle.pac_lex.specs.Bytes.{is_blank, after_gap}

-- bytes cut before their first blank
abbrev pub cut_word : List ℕ → List ℕ × List ℕ
cut_word bytes = (take_while (λ b. not (is_blank b)) bytes, drop (prefix_len (λ b. not (is_blank b)) bytes) bytes)

-- the first of the words of a line and what follows it, if there is one
abbrev pub next_word : List ℕ → Option (List ℕ × List ℕ)
next_word line = if length (after_gap line) == 0 then None else Some (cut_word (after_gap line))
