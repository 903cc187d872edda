-- For proofs: a text cut after its first line. The lines of a whole text are std's `lines`.
use Rattle.std.specs.Prelude.{ℕ, ◌==◌, List, [], length, take, drop, position, Option, Some, None, if◌then◌else◌}
use Rattle.std.specs.Str.Lines.{strip_carriage_return}

-- the first line without its ending, and what follows that ending, by the place of the first line feed
abbrev pub cut_line : List ℕ → Option ℕ → List ℕ × List ℕ
cut_line text None = (text, [])
cut_line text (Some feed) = (strip_carriage_return (take feed text), drop 1 (drop feed text))

-- the first line of a text without its ending, and what follows that ending, if the text has a line
abbrev pub first_line : List ℕ → Option (List ℕ × List ℕ)
first_line text = if length text == 0 then None else Some (cut_line text (position (λ b. b == 10) text))
