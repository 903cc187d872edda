-- Law: what is proved of the definitions of Values.antt.
use Rattle.std.specs.Prelude.{List, ℕ, Option, ℤ, None, ◌≡◌, ◌⊎◌}
use Rattle.pac_expr.specs.Trees.{Tree, atom, number, character, name, here, group, signed, joined}

-- a name of the tree isn't defined
abbrev pub HasUndefined : (List ℕ → Option ℤ) → Tree → Type 0
HasUndefined names (atom (number n)) = ⊥
HasUndefined names (atom (character c)) = ⊥
HasUndefined names (atom (name text)) = names text ≡ None
HasUndefined names (atom here) = ⊥
HasUndefined names (group t) = HasUndefined names t
HasUndefined names (signed sign t) = HasUndefined names t
HasUndefined names (joined operator left right) = HasUndefined names left ⊎ HasUndefined names right
