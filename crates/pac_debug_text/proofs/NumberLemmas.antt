-- A number read digit by digit, from the left, and an address of four digits.
use Rattle.pac_debug_text.proofs.Common.{List, Some, [], address_of, arith, get_or, hex_digit_number, is_ascii_hexdigit, length, rules}
use Rattle.pac_debug_text.proofs.Common.{true, value_of_digit, ℕ, ◌*◌, ◌+◌, ◌∷◌, ◌≡◌}

-- a hexadecimal digit, by what it counts
record IsDigit (c n : ℕ) : Type 0 where
  hexadecimal : is_ascii_hexdigit c ≡ true
  counts : value_of_digit c ≡ n

is-digit : (c n : ℕ) → Some n ≡ hex_digit_number c → IsDigit c n
is-digit c n found = search rules

-- four of them are an address
pub four-digits : (word : List ℕ) (a b c d : ℕ) → length word ≡ 4
    → Some a ≡ hex_digit_number (get_or word 0 0) → Some b ≡ hex_digit_number (get_or word 1 0)
    → Some c ≡ hex_digit_number (get_or word 2 0) → Some d ≡ hex_digit_number (get_or word 3 0)
    → Some (16 * c + d + 256 * (16 * a + b)) ≡ address_of word
four-digits (w ∷ x ∷ y ∷ z ∷ []) a b c d four e f g h = grind (arith, is-digit)
four-digits word a b c d four e f g h = absurd (omega (arith, four))
