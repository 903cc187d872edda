-- Lists of which no two elements are the same.
use Rattle.pac_lemmas.proofs.Common.{AllByRecursion, Bool, IsDistinct, List, [], and_parts, false, list_all, not, not-true, true, ◌&&◌, ◌∷◌}
use Rattle.pac_lemmas.proofs.Common.{◌≡◌}

-- whether no element of a list is the same as one after it
unfoldable pub is_distinct : {K : Type 0} → (K → K → Bool) → List K → Bool
is_distinct same [] = true
is_distinct same (x ∷ xs) = list_all (λ y. not (same x y)) xs && is_distinct same xs

none-same : {K : Type 0} (p : K → Bool) (xs : List K) → list_all (λ y. not (p y)) xs ≡ true → AllByRecursion (λ y. p y ≡ false) xs
none-same p [] all = tt
none-same p (x ∷ xs) all =
    let parts = and_parts (not (p x)) (list_all (λ y. not (p y)) xs) all in
    (not-true (p x) parts.0, none-same p xs parts.1)

pub distinct-by-test : {K : Type 0} (same : K → K → Bool) (xs : List K) → is_distinct same xs ≡ true → IsDistinct same xs
unfolding is_distinct IsDistinct
distinct-by-test same [] all = tt
distinct-by-test same (x ∷ xs) all =
    let parts = and_parts (list_all (λ y. not (same x y)) xs) (is_distinct same xs) all in
    (none-same (same x) xs parts.0, distinct-by-test same xs parts.1)
