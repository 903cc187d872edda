-- A list is what stands at its places.
use Rattle.std.proofs.Common.{◌≡◌, ℕ, zero, suc, List, [], ◌∷◌, length, slice_index_or, refl, ◌∙◌, ap, arith}

unfoldable pub items_from : ℕ → ℕ → List ℕ → List ℕ
items_from place zero xs = []
items_from place (suc count) xs = slice_index_or xs place 0 ∷ items_from (suc place) count xs

past-first : (count place x : ℕ) (xs : List ℕ) → items_from (suc place) count (x ∷ xs) ≡ items_from place count xs
unfolding items_from
past-first zero place x xs = refl
past-first (suc count) place x xs = ap (λ ys. slice_index_or xs place 0 ∷ ys) (past-first count (suc place) x xs)

pub all-items : (count : ℕ) (xs : List ℕ) → length xs ≡ count → items_from 0 count xs ≡ xs
unfolding items_from
all-items zero [] is = refl
all-items zero (x ∷ xs) is = absurd (omega (arith, is))
all-items (suc count) [] is = absurd (omega (arith, is))
all-items (suc count) (x ∷ xs) is = ap (λ ys. x ∷ ys) (past-first count 0 x xs ∙ all-items count xs (omega (arith, is)))
