-- Believed: symbols: names that stand for numbers, in the order in which they were defined. Names are the same where
-- their bytes are; small and capital letters differ (this profile).
use Rattle.std.specs.Prelude.{ℕ, ℤ, List, [], ◌∷◌, ◌++◌, Option, is_some, bytes_eq, if◌then◌else◌}
use Rattle.std.specs.Map.{lookup}

-- a name's bytes with its number
abbrev pub Symbol : Type 0
Symbol = List ℕ × ℤ

-- the number that a name stands for, if it is defined
abbrev pub number_of_symbol : List Symbol → List ℕ → Option ℤ
number_of_symbol symbols name = lookup (bytes_eq name) symbols

-- the symbols after a name is defined: it goes last, and a name that stands already keeps its number
abbrev pub with_symbol : List Symbol → List ℕ → ℤ → List Symbol
with_symbol symbols name number = if is_some (number_of_symbol symbols name) then symbols else symbols ++ (name, number) ∷ []
