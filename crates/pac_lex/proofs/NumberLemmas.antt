-- A number read digit by digit, from the left.
use Rattle.pac_lex.proofs.Common.{List, None, Option, Some, [], and_right, arith, cond, cond-false, fold, le-ltb, le_trans, list_all, ltb}
use Rattle.pac_lex.proofs.Common.{mul-le-mul_left, value_of_digit, ℕ, ◌&&◌, ◌*◌, ◌+◌, ◌<◌, ◌∷◌, ◌≡◌, ◌≤◌}

-- the number whose first digits came to n, and whose other digits are these
abbrev pub with_digits : ℕ → ℕ → List ℕ → Option ℕ
with_digits base n digits =
    cond (list_all (λ c. ltb (value_of_digit c) base) digits && ltb (fold (λ m c. m * base + value_of_digit c) n digits) 65536)
    (Some (fold (λ m c. m * base + value_of_digit c) n digits)) None

grows : (base n : ℕ) (digits : List ℕ) → 0 < base → n ≤ fold (λ m c. m * base + value_of_digit c) n digits
grows base n [] h = omega arith
grows base n (c ∷ digits) h = le_trans (omega (arith, mul-le-mul_left n h)) (grows base (n * base + value_of_digit c) digits h)

pub too-large : (base n c : ℕ) (digits : List ℕ) → 0 < base → 65535 < n * base + value_of_digit c → with_digits base n (c ∷ digits) ≡ None
too-large base n c digits h large = grind (arith, and_right, cond-false, grows, le-ltb)
