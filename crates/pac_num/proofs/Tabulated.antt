-- What a list by its places is made of.
use Rattle.std.proofs.Common.{◌≡◌, ℕ, zero, suc, ◌+◌, ◌<◌, List, [], ◌∷◌, ◌++◌, length, get_or, refl, sym, ◌∙◌}
use Rattle.std.proofs.Common.{append_assoc, append-nil, add-zero, arith}
use Rattle.std.proofs.lemmas.Bool.{cases_lt}
use mathlib.Core.Logic.{inl, inr}
use Rattle.std.proofs.lemmas.List.{length_push, get_or_push, get_or_append_left, same_lists, get_or_default}
use Rattle.pac_num.specs.Tabulate.{tabulate}

pub length-tabulate : {A : Type 0} (count : ℕ) (value : ℕ → A) → length (tabulate count value) ≡ count
unfolding tabulate
length-tabulate zero value = refl
length-tabulate (suc count) value = let e = length-tabulate count value in rw length_push (omega (arith, e))

pub get_or-tabulate : {A : Type 0} (count : ℕ) (value : ℕ → A) (place : ℕ) (other : A) → place < count →
    get_or (tabulate count value) place other ≡ value place
unfolding tabulate
get_or-tabulate zero value place other below = absurd (omega (arith, below))
get_or-tabulate (suc count) value place other below =
    let long = length-tabulate count value in
    elim (cases_lt place count) [
      | inl before ↦
          get_or_append_left (tabulate count value) _ other place (rw long before) ∙ get_or-tabulate count value place other before
      | inr past ↦
          let last : place ≡ count = omega (arith, below, past) in
          rw last (get_or_push _ _ other count long)
    ]

-- a list is the values of a function where it has them at each of its places
pub tabulate-is : {A : Type 0} (xs : List A) (count : ℕ) (value : ℕ → A) (other : A) → length xs ≡ count →
    ((k : ℕ) → k < count → get_or xs k other ≡ value k) → xs ≡ tabulate count value
tabulate-is xs count value other long filled =
    same_lists xs (tabulate count value) (long ∙ sym (length-tabulate count value))
    (λ k d inside.
    let within : k < count = rw long at inside in
    get_or_default xs k d other inside ∙ (filled k within ∙ sym (get_or-tabulate count value k d within)))

-- the first `count` values, then `more` of them
pub tabulate-add : {A : Type 0} (count more : ℕ) (value : ℕ → A) →
    tabulate (count + more) value ≡ tabulate count value ++ tabulate more (λ place. value (count + place))
unfolding tabulate
tabulate-add count zero value = rw add-zero (sym (append-nil _))
tabulate-add count (suc more) value =
    let one_more : count + suc more ≡ suc (count + more) = omega arith in
    let before = tabulate-add count more value in
    rw (one_more, before) (append_assoc (tabulate count value) (tabulate more (λ place. value (count + place))) (value (count + more) ∷ []))

-- two functions that agree give the same list
pub tabulate-same : {A : Type 0} (count : ℕ) (one other : ℕ → A) → ((place : ℕ) → place < count → one place ≡ other place) →
    tabulate count one ≡ tabulate count other
unfolding tabulate
tabulate-same zero one other same = refl
tabulate-same (suc count) one other same =
    let before = tabulate-same count one other (λ place below. same place (omega (arith, below))) in
    let last = same count (omega arith) in
    rw (before, last) refl
