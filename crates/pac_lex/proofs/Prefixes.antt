-- The longest prefix of a list whose bytes pass a test.
use Rattle.pac_lex.proofs.Common.{Bool, List, [], and_parts, ap, begins, cases_Bool, drop, false, inl, inr, length, list_all, one-add}
use Rattle.pac_lex.proofs.Common.{prefix_len, refl, rules, suc, take, true, ℕ, ◌++◌, ◌<◌, ◌∷◌, ◌≡◌}

pub prefix-of-all : (p : ℕ → Bool) (xs ys : List ℕ) → list_all p xs ≡ true → begins p ys ≡ false → prefix_len p (xs ++ ys) ≡ length xs
prefix-of-all p [] [] all stop = refl
prefix-of-all p [] (y ∷ ys) all stop = rw stop refl
prefix-of-all p (x ∷ xs) ys all stop =
    let both = and_parts (p x) (list_all p xs) all in
    rw (both.0, one-add) (ap (λ (n : ℕ). suc n) (prefix-of-all p xs ys both.1 stop))

-- what follows the longest prefix that passes begins with nothing that passes
pub begins-after : (p : ℕ → Bool) (bytes : List ℕ) → begins p (drop (prefix_len p bytes) bytes) ≡ false
begins-after p [] = refl
begins-after p (b ∷ bytes) = elim (cases_Bool (p b)) [
  | inl e ↦ rw (e, one-add) (begins-after p bytes)
  | inr e ↦ rw e e
]

pub begins-take : (p : ℕ → Bool) (n : ℕ) (xs : List ℕ) → 0 < n → begins p (take n xs) ≡ begins p xs
begins-take p n xs h = search rules
