-- A value is refused for an undefined name exactly where the tree has one.
use Rattle.pac_expr.proofs.Common.{Err, HasUndefined, List, MatchOption, None, Operator, Option, Sign, Some, Tree, Undefined, ValueResult}
use Rattle.pac_expr.proofs.Common.{ap, arith, atom, group, inl, inr, joined, joined_value, name, none-some, ok_or, option_map, rules}
use Rattle.pac_expr.proofs.Common.{same_Some, sign_value, signed, tree_value, ℕ, ℤ, ◌↔◌, ◌≡◌, ◌⊎◌}

abbrev IsUndefined : ValueResult → Type 0
IsUndefined answer = answer ≡ Err Undefined

defined-is : (o : Option ℤ) → IsUndefined (ok_or o Undefined) → o ≡ None
defined-is o e = search rules

sign-is : (sign : Sign) (answer : ValueResult) → IsUndefined (sign_value sign answer) → IsUndefined answer
sign-is sign answer e = search rules

joined-is : (operator : Operator) (left right : ValueResult) → IsUndefined (joined_value operator left right)
    → IsUndefined left ⊎ IsUndefined right
joined-is operator left right e = search rules

left-is : (operator : Operator) (right : ValueResult) → IsUndefined (joined_value operator (Err Undefined) right)
left-is operator right = search rules

right-is : (operator : Operator) (left : ValueResult) → IsUndefined (joined_value operator left (Err Undefined))
right-is operator left = search rules

signed-back : (sign : Sign) → IsUndefined (sign_value sign (Err Undefined))
signed-back sign = search rules

pub found : (names : List ℕ → Option ℤ) (line : ℕ) (t : Tree) → IsUndefined (tree_value names line t) → HasUndefined names t
found names line (atom (name text)) e = defined-is (names text) e
found names line (group t) e = found names line t e
found names line (signed sign t) e = found names line t (sign-is sign (tree_value names line t) e)
found names line (joined operator left right) e = elim (joined-is operator (tree_value names line left) (tree_value names line right) e) [
  | inl l ↦ inl (found names line left l)
  | inr r ↦ inr (found names line right r)
]
found names line t e = absurd cc

pub told : (names : List ℕ → Option ℤ) (line : ℕ) (t : Tree) → HasUndefined names t → IsUndefined (tree_value names line t)
told names line (atom (name text)) h = ap (λ (o : Option ℤ). ok_or o Undefined) h
told names line (group t) h = told names line t h
told names line (signed sign t) h = rw (told names line t h) (signed-back sign)
told names line (joined operator left right) (inl l) = rw (told names line left l) (left-is operator (tree_value names line right))
told names line (joined operator left right) (inr r) = rw (told names line right r) (right-is operator (tree_value names line left))
told names line t h = absurd h

pub undefined-told : (names : List ℕ → Option ℤ) (line : ℕ) (o : Option Tree) (result : Option ValueResult)
    → result ≡ option_map (tree_value names line) o → (result ≡ Some (Err Undefined)) ↔ MatchOption o ⊥ (HasUndefined names)
undefined-told names line o result e = grind (arith, found, none-some, same_Some, told)
