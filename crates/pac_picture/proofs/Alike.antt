-- Sprites that do the same to a line, told by bits.
use Rattle.pac_picture.proofs.Common.{Bool, List, arith, bit_and, bit_at, bit_at-suc, bit_at-zero, bit_at_and, bit_at_or, bit_or, eqb-true}
use Rattle.pac_picture.proofs.Common.{get_or-chunk, if◌then◌else◌, is_in_box, length, length-chunk, pos, same_number_lists, slice_index}
use Rattle.pac_picture.proofs.Common.{sprite_of, suc, sym, true, ℕ, ◌%◌, ◌*◌, ◌+◌, ◌-ℤ◌, ◌/◌, ◌<◌, ◌==◌, ◌^◌, ◌||◌, ◌∙◌, ◌≡◌}
use lib.Lanes.{chunk}

-- sixteen bytes, as a vector takes them
pub all-sixteen : (bytes : List ℕ) → length bytes ≡ 16 → chunk 0 16 bytes ≡ bytes
all-sixteen bytes long =
    let whole : length (chunk 0 16 bytes) ≡ 16 = length-chunk 0 16 bytes (omega (arith, long)) in
    same_number_lists (chunk 0 16 bytes) bytes (whole ∙ sym long) (λ k inside.
    let place : 0 + k ≡ k = omega arith in
    rw place at (get_or-chunk 0 16 bytes k 0 (omega (arith, inside, whole))))

-- no bit of two bits is set where both together have none in common with one that is set
pub off-bits : (changed boxes k : ℕ) → bit_and (bit_or changed (changed / 2)) boxes ≡ 0 → boxes / 2 ^ (2 * k) % 2 ≡ 1 →
    (changed / 2 ^ (2 * k) % 2 ≡ 0) × (changed / 2 ^ (2 * k + 1) % 2 ≡ 0)
off-bits changed boxes k none set =
    let next : 2 * k + 1 ≡ suc (2 * k) = omega arith in
    let all : bit_at (bit_and (bit_or changed (changed / 2)) boxes) (2 * k) ≡ 0 = rw none (bit_at-zero (2 * k)) in
    let both = bit_at_and (bit_or changed (changed / 2)) boxes (2 * k) in
    let either = bit_at_or changed (changed / 2) (2 * k) in
    let shifted = bit_at-suc changed (2 * k) in
    (omega (arith, all, both, either, set), rw next (omega (arith, all, both, either, shifted, set)))

-- the bytes that a bit of 0 tells
bit-false : (t : Bool) → ◌≡◌ {A = ℕ} 0 (if t then 0 else 1) → t ≡ true
bit-false t is = grind arith

AreTold : ℕ → List ℕ → List ℕ → Type 0
AreTold bits now seen = (k : ℕ) → k < 16 → bits / 2 ^ k % 2 ≡ (if slice_index now (0 + k) == slice_index seen (0 + k) then 0 else 1)

same-where : (bits : ℕ) (now seen : List ℕ) (k : ℕ) → AreTold bits now seen → k < 16 → bits / 2 ^ k % 2 ≡ 0 →
    slice_index seen k ≡ slice_index now k
unfolding AreTold
same-where bits now seen k told below none = grind (arith, eqb-true, bit-false, told)

-- two lists of bits of which none is set
none-either : (one other k : ℕ) → bit_or one other / 2 ^ k % 2 ≡ 0 → (one / 2 ^ k % 2 ≡ 0) × (other / 2 ^ k % 2 ≡ 0)
none-either one other k none = grind (arith, bit_at_or)

-- a bit that is set where one of two boxes has the line
some-box : (one other : Bool) (bits more k : ℕ) → (one || other) ≡ true → bits / 2 ^ k % 2 ≡ (if other then 1 else 0) →
    more / 2 ^ k % 2 ≡ (if one then 1 else 0) → bit_or bits more / 2 ^ k % 2 ≡ 1
some-box one other bits more k some now before = let either = bit_at_or bits more k in grind arith

-- a sprite is the one that was seen where its box or that one's has the line
pub alike-where : (attributes coordinates seen_attributes seen_coordinates : List ℕ) (looks places boxes before y k : ℕ) →
    ((k : ℕ) → k < 16 → looks / 2 ^ k % 2 ≡ (if slice_index attributes (0 + k) == slice_index seen_attributes (0 + k) then 0 else 1)) →
    ((k : ℕ) → k < 16 →
    places / 2 ^ k % 2 ≡ (if slice_index coordinates (0 + k) == slice_index seen_coordinates (0 + k) then 0 else 1)) →
    ((k : ℕ) → k < 8 →
    boxes / 2 ^ (2 * k) % 2 ≡ (if is_in_box (pos (slice_index coordinates (2 * k)) -ℤ pos 31) y then 1 else 0)) →
    ((k : ℕ) → k < 8 →
    before / 2 ^ (2 * k) % 2 ≡ (if is_in_box (pos (slice_index seen_coordinates (2 * k)) -ℤ pos 31) y then 1 else 0)) →
    ((k : ℕ) → k < 8 → bit_or boxes before / 2 ^ (2 * k) % 2 ≡ 1 →
    (bit_or looks places / 2 ^ (2 * k) % 2 ≡ 0) × (bit_or looks places / 2 ^ (2 * k + 1) % 2 ≡ 0)) →
    k < 8 →
    (is_in_box (pos (slice_index seen_coordinates (2 * k)) -ℤ pos 31) y
    || is_in_box (pos (slice_index coordinates (2 * k)) -ℤ pos 31) y) ≡ true →
    sprite_of (slice_index seen_attributes (2 * k)) (slice_index seen_attributes (2 * k + 1))
    (slice_index seen_coordinates (2 * k)) (slice_index seen_coordinates (2 * k + 1))
    ≡ sprite_of (slice_index attributes (2 * k)) (slice_index attributes (2 * k + 1))
    (slice_index coordinates (2 * k)) (slice_index coordinates (2 * k + 1))
unfolding AreTold
alike-where attributes coordinates seen_attributes seen_coordinates looks places boxes before y k looks_told places_told boxes_told
    before_told off below some =
    let there = some-box (is_in_box (pos (slice_index seen_coordinates (2 * k)) -ℤ pos 31) y)
    (is_in_box (pos (slice_index coordinates (2 * k)) -ℤ pos 31) y) boxes before (2 * k) some (boxes_told k below) (before_told k below) in
    let none = off k below there in
    let one = none-either looks places (2 * k) none.0 in
    let other = none-either looks places (2 * k + 1) none.1 in
    let look = same-where looks attributes seen_attributes in
    let place = same-where places coordinates seen_coordinates in grind (arith, look, place)
