-- Believed: a list by its places.
use Rattle.std.specs.Prelude.{ℕ, zero, suc, List, [], ◌∷◌, ◌++◌}

-- the values of a function at 0, 1 and so on, this many
unfoldable pub tabulate : {A : Type 0} → ℕ → (ℕ → A) → List A
tabulate zero value = []
tabulate (suc count) value = tabulate count value ++ value count ∷ []
