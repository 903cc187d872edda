-- The latch's bits as a list, and as a byte.
use Rattle.pac_latch.proofs.Common.{Bits, Bool, Latched, List, [], ap, arith, binary_digit, binary_number, bit, bits_of, byte_of_latch}
use Rattle.pac_latch.proofs.Common.{common_steps, div-div-eq-div-mul, ext_get_or, false, get_or, get_or-set_other, get_or-set_same}
use Rattle.pac_latch.proofs.Common.{is_latch_bit_set, latch_bits, latch_of_bits, latch_place, latched_after_bit, length, length-set, refl}
use Rattle.pac_latch.proofs.Common.{set, suc, sym, true, zero, zero-div, ℕ, ◌%◌, ◌*◌, ◌+◌, ◌/◌, ◌<◌, ◌==◌, ◌^◌, ◌∙◌, ◌∷◌, ◌≡◌, ◌≢◌}

-- eight bits, listed again, are those bits
listed-at : (bits : List Bool) (place : ℕ) → place < 8 → get_or (latch_bits (latch_of_bits bits)) place false ≡ get_or bits place false
listed-at bits place below = grind (arith, common_steps)

pub listed-of_list : (bits : List Bool) → length bits ≡ 8 → latch_bits (latch_of_bits bits) ≡ bits
listed-of_list bits long = ext_get_or false _ _ (rw long refl) (λ place below. listed-at bits place below)

-- what a written bit leaves in the bit of a place
after_bit-at : (latched : Latched) (place : ℕ) (is_set : Bool) (other : ℕ) →
    is_latch_bit_set (latched_after_bit latched place is_set) other
    ≡ get_or (set (latch_bits latched.bits) (latch_place place) is_set) (latch_place other) false
after_bit-at latched place is_set other =
    ap (λ (bits : List Bool). get_or bits (latch_place other) false)
    (listed-of_list (set (latch_bits latched.bits) (latch_place place) is_set) (rw length-set refl))

-- it is the bit of its place, and the others stay
pub is_set-written : (latched : Latched) (place : ℕ) (is_set : Bool)
    → is_latch_bit_set (latched_after_bit latched place is_set) place ≡ is_set
is_set-written latched place is_set =
    let inside : latch_place place < length (latch_bits latched.bits) = omega arith in
    after_bit-at latched place is_set place ∙ rw get_or-set_same refl

pub is_set-others : (latched : Latched) (place : ℕ) (is_set : Bool) (other : ℕ) → latch_place other ≢ latch_place place →
    is_latch_bit_set (latched_after_bit latched place is_set) other ≡ is_latch_bit_set latched other
is_set-others latched place is_set other apart = after_bit-at latched place is_set other ∙ rw get_or-set_other refl

-- the bit of a place of the number that binary digits make is the digit there
digit-lowest : (lowest : Bool) (more : ℕ) → ((binary_digit lowest + 2 * more) / 1 % 2 == 1) ≡ lowest
digit-lowest true more = let one : (1 + 2 * more) / 1 % 2 ≡ 1 = omega arith in rw one refl
digit-lowest false more = let none : (0 + 2 * more) / 1 % 2 ≡ 0 = omega arith in rw none refl

without-lowest : (lowest : Bool) (more : ℕ) → (binary_digit lowest + 2 * more) / 2 ≡ more
without-lowest true more = omega arith
without-lowest false more = omega arith

bit-next : (n place : ℕ) → bit n (suc place) ≡ bit (n / 2) place
bit-next n place =
    let power : 2 ^ suc place ≡ 2 * 2 ^ place = omega arith in
    rw power (ap (λ rest. rest % 2) (sym (div-div-eq-div-mul n 2 (2 ^ place))))

number_of-bit : (digits : List Bool) (place : ℕ) → (bit (binary_number digits) place == 1) ≡ get_or digits place false
number_of-bit [] place = rw zero-div refl
number_of-bit (lowest ∷ more) zero = digit-lowest lowest (binary_number more)
number_of-bit (lowest ∷ more) (suc place) =
    ap (λ at. at == 1) (bit-next (binary_number (lowest ∷ more)) place ∙ ap (λ n. bit n place) (without-lowest lowest (binary_number more)))
    ∙ number_of-bit more place

-- so the latch of the latch's byte is the latch
pub bits_of-byte_of : (bits : Bits) → bits_of (byte_of_latch bits) ≡ bits
bits_of-byte_of bits =
    let at : (place : ℕ) → (bit (byte_of_latch bits) place == 1) ≡ get_or (latch_bits bits) place false = number_of-bit (latch_bits bits) in
    rw (at 0, at 1, at 2, at 3, at 4, at 5, at 6, at 7) refl
