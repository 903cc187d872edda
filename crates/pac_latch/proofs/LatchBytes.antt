-- The latch that has the bits of a byte is told by that byte.
use Rattle.pac_latch.proofs.Common.{arith, binary_digit, bit, bits_of, byte_of_latch, refl, suc, zero, ℕ, ◌<◌, ◌==◌, ◌≡◌}

-- a bit, tested and written again
digit-test : (n : ℕ) → n < 2 → binary_digit (n == 1) ≡ n
digit-test zero below = refl
digit-test (suc zero) below = refl
digit-test (suc (suc n)) below = omega arith

digit-bit : (n k : ℕ) → binary_digit (bit n k == 1) ≡ bit n k
digit-bit n k = let below : bit n k < 2 = omega arith in digit-test (bit n k) below

pub byte_of-bits_of : (n : ℕ) → n < 256 → byte_of_latch (bits_of n) ≡ n
byte_of-bits_of n below =
    rw (
      digit-bit n 0,
      digit-bit n 1,
      digit-bit n 2,
      digit-bit n 3,
      digit-bit n 4,
      digit-bit n 5,
      digit-bit n 6,
      digit-bit n 7,
    ) (omega (arith, below))
