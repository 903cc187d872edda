-- A decimal number read digit by digit, from the left.
use Rattle.pac_lemmas.proofs.Common.{List, None, Option, Some, [], and_right, arith, cond, cond-false, fold, is_ascii_digit, le_trans}
use Rattle.pac_lemmas.proofs.Common.{list_all, lt-leb, nat_le, ℕ, ◌&&◌, ◌*◌, ◌+◌, ◌-◌, ◌<◌, ◌∷◌, ◌≡◌, ◌≤◌}

-- the number whose first digits came to n, and whose other digits are these
abbrev pub number_from : ℕ → List ℕ → ℕ
number_from n digits = fold (λ m c. m * 10 + (c - 48)) n digits

-- such a number, where all are digits and it is from 1 to the most
abbrev pub with_digits : ℕ → ℕ → List ℕ → Option ℕ
with_digits most n digits =
    cond (list_all is_ascii_digit digits && nat_le 1 (number_from n digits) && nat_le (number_from n digits) most)
    (Some (number_from n digits)) None

number-grows : (n : ℕ) (digits : List ℕ) → n ≤ number_from n digits
number-grows n [] = omega arith
number-grows n (c ∷ digits) = le_trans (omega arith) (number-grows (n * 10 + (c - 48)) digits)

pub too-large : (most n c : ℕ) (digits : List ℕ) → most < n * 10 + (c - 48) → with_digits most n (c ∷ digits) ≡ None
too-large most n c digits large = grind (arith, and_right, cond-false, lt-leb, number-grows)
