-- Believed: one question after another, as Rust's `?` does it.
use Rattle.std.specs.Prelude.{Result, Ok, Err}

-- the first of two questions that is refused, or the answer to the second, which is put to the answer of the first
infixl 10 ◌>>=◌
abbrev pub ◌>>=◌ : {E A B : Type 0} → Result A E → (A → Result B E) → Result B E
(Ok value) >>= next = next value
(Err fault) >>= next = Err fault
