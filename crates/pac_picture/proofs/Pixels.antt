-- The pixels of bytes, lane by lane.
use Rattle.pac_picture.proofs.Common.{AreNumbersOf, List, and_mask, and_pow, arith, bit_and, bit_at, bit_at-lt, cond, drop, get_or}
use Rattle.pac_picture.proofs.Common.{get_or-chunk, get_or-drop, get_or-replicate, get_or-sel_l, get_or-tabulate, get_or-take, get_or-zip2}
use Rattle.pac_picture.proofs.Common.{if◌then◌else◌, length, length-chunk, length-drop, length-replicate, length-sel_l, length-tabulate}
use Rattle.pac_picture.proofs.Common.{length-take-le, length-zip2, map, nat_lt, nat_tests, pixel_value, replicate, suc, sym, tabulate}
use Rattle.pac_picture.proofs.Common.{tops_compared, zero, ℕ, ◌%◌, ◌*◌, ◌+◌, ◌-◌, ◌/◌, ◌<◌, ◌^◌, ◌∙◌, ◌≡◌, ◌≤◌}
use lib.Lanes.{chunk, zip2, sel_l, top}
use borrow.Rule.Slice.PartMut.{mid_of}
use lib.Dec.{ltb}
use mir.Syntax.{w8}

-- ---- lanes that are at most those of another vector

abbrev capped : List ℕ → List ℕ → List ℕ
capped xs most = sel_l (map (top 7) (zip2 (λ a b. cond (ltb a b) 255 0) xs most)) xs most

module _ (xs most : List ℕ) (long : length xs ≡ 16) (long_most : length most ≡ 16) where
  tests-long : length (zip2 ltb xs most) ≡ 16
  tests-long = length-zip2 ltb xs most (long ∙ sym long_most) ∙ long

  capped-is : capped xs most ≡ sel_l (zip2 ltb xs most) xs most
  capped-is = rw (tops_compared w8 ltb xs most)

  capped-at : (k : ℕ) → k < 16 →
      get_or (capped xs most) k 0 ≡ cond (ltb (get_or xs k 0) (get_or most k 0)) (get_or xs k 0) (get_or most k 0)
  capped-at k below = rw capped-is (grind (arith, get_or-sel_l, get_or-zip2, tests-long))

  capped-long : length (capped xs most) ≡ 16
  capped-long = rw (capped-is, length-sel_l (zip2 ltb xs most) xs most (tests-long ∙ sym long) (tests-long ∙ sym long_most), tests-long)

by-bit : (bit power most : ℕ) → bit < 2 → 0 < most → most ≤ power →
    cond (ltb (bit * power) most) (bit * power) most ≡ most * bit
by-bit zero power most below some enough = grind (arith, nat_tests)
by-bit (suc zero) power most below some enough = grind (arith, nat_tests)
by-bit (suc (suc bit)) power most below some enough = absurd (omega (arith, below))

-- a bit, by the weight that it is given
weighed : (byte place most : ℕ) → 0 < most → most ≤ 2 ^ place →
    cond (ltb (bit_and byte (2 ^ place)) most) (bit_and byte (2 ^ place)) most ≡ most * (byte / 2 ^ place % 2)
weighed byte place most some enough =
    rw and_pow (by-bit (bit_at byte place) (2 ^ place) most (bit_at-lt byte place) some enough)

-- a bit of each byte, by its weight
abbrev bits_of : List ℕ → (ℕ → ℕ) → ℕ → List ℕ
bits_of bytes place most = capped (zip2 bit_and bytes (tabulate 16 (λ k. 2 ^ place k))) (replicate 16 most)

-- the bits of sixteen bytes
masked-long : (bytes : List ℕ) (place : ℕ → ℕ) → length bytes ≡ 16 → length (zip2 bit_and bytes (tabulate 16 (λ k. 2 ^ place k))) ≡ 16
masked-long bytes place long =
    length-zip2 bit_and bytes (tabulate 16 (λ k. 2 ^ place k)) (long ∙ sym (length-tabulate 16 (λ k. 2 ^ place k))) ∙ long

bit-at : (bytes : List ℕ) (place : ℕ → ℕ) (most k : ℕ) → length bytes ≡ 16 → 0 < most → most ≤ 2 ^ place k → k < 16 →
    get_or (bits_of bytes place most) k 0 ≡ most * (get_or bytes k 0 / 2 ^ place k % 2)
bit-at bytes place most k long some enough below =
    let in_powers : k < length (tabulate 16 (λ k. 2 ^ place k)) = rw length-tabulate below in
    let weight : get_or (replicate {A = ℕ} 16 most) k 0 ≡ most = get_or-replicate {A = ℕ} 16 k most 0 below in
    capped-at _ (replicate {A = ℕ} 16 most) (masked-long bytes place long) (length-replicate {A = ℕ} 16 most) k below
    ∙ rw (
      get_or-zip2 bit_and bytes (tabulate 16 (λ k. 2 ^ place k)) k 0 0 0 (omega (arith, long, below)) in_powers,
      get_or-tabulate 16 (λ k. 2 ^ place k) k 0 below,
      weight,
    ) (weighed (get_or bytes k 0) (place k) most some enough)

bits-long : (bytes : List ℕ) (place : ℕ → ℕ) (most : ℕ) → length bytes ≡ 16 → length (bits_of bytes place most) ≡ 16
bits-long bytes place most long =
    capped-long _ (replicate {A = ℕ} 16 most) (masked-long bytes place long) (length-replicate {A = ℕ} 16 most)

one-fits : (place : ℕ) → 1 ≤ 2 ^ place
one-fits zero = omega arith
one-fits (suc place) = let before = one-fits place in omega (arith, before)

two-fits : (place : ℕ) → 0 < place → 2 ≤ 2 ^ place
two-fits (suc place) some = let before = one-fits place in omega (arith, before)
two-fits zero some = absurd (omega (arith, some))

-- ---- the pixels of bytes

pub value-at : (bytes : List ℕ) (k : ℕ) → length bytes ≡ 16 → k < 16 →
    get_or (zip2 (λ a b. (a + b) % 256) (bits_of bytes (λ k. 7 - k % 4) 2) (bits_of bytes (λ k. 3 - k % 4) 1)) k 0
    ≡ pixel_value (get_or bytes k 0) k
value-at bytes k long below =
    let two = bit-at bytes (λ k. 7 - k % 4) 2 k long (omega arith) (two-fits (7 - k % 4) (omega arith)) below in
    let one = bit-at bytes (λ k. 3 - k % 4) 1 k long (omega arith) (one-fits (3 - k % 4)) below in
    get_or-zip2 (λ a b. (a + b) % 256) (bits_of bytes (λ k. 7 - k % 4) 2) (bits_of bytes (λ k. 3 - k % 4) 1) k 0 0 0
    (omega (arith, bits-long bytes (λ k. 7 - k % 4) 2 long, below)) (omega (arith, bits-long bytes (λ k. 3 - k % 4) 1 long, below))
    ∙ rw (two, one) (omega arith)

-- ---- the places of a pair of a tile's lines

pub place-at : (pair k : ℕ) → pair < 4 → k < 16 →
    get_or (tabulate 16 (λ k. (k / 8 + (if nat_lt (k % 8) 4 then 8 else 0) + 2 * pair) % 256)) k 0
    ≡ 2 * pair + k / 8 + (if nat_lt (k % 8) 4 then 8 else 0)
place-at pair k some below =
    get_or-tabulate 16 (λ k. (k / 8 + (if nat_lt (k % 8) 4 then 8 else 0) + 2 * pair) % 256) k 0 below ∙ grind (arith, nat_tests)

-- ---- the numbers of a colour

pub numbers-at : (lookup : List ℕ) (colour : ℕ) → length lookup ≡ 256 →
    AreNumbersOf lookup colour
    (zip2 bit_and (chunk 0 16 (mid_of (4 * (colour % 32)) (256 - 4 * (colour % 32)) lookup)) (replicate 16 15))
numbers-at lookup colour long value below =
    let start : ℕ = 4 * (colour % 32) in
    let rest : List ℕ = mid_of start (256 - start) lookup in
    let piece : List ℕ = chunk 0 16 rest in
    let long_rest : length rest ≡ 256 - start =
    length-take-le (256 - start) (drop start lookup) (rw (length-drop start lookup) (omega (arith, long))) in
    let long_piece : length piece ≡ 16 = length-chunk 0 16 rest (omega (arith, long_rest)) in
    let inside : value < length piece = omega (arith, long_piece, below) in
    let masked : value < length (replicate {A = ℕ} 16 15) = omega (arith, below, length-replicate {A = ℕ} 16 15) in
    let place : 0 + value ≡ value = omega arith in
    let here : get_or piece value 0 ≡ get_or lookup (start + value) 0 =
    (rw place at (get_or-chunk 0 16 rest value 0 (omega (arith, below))))
    ∙ (get_or-take (256 - start) (drop start lookup) value 0 (omega (arith, below)) ∙ get_or-drop start lookup value 0) in
    get_or-zip2 bit_and piece (replicate 16 15) value 0 0 0 inside masked
    ∙ (rw (here, get_or-replicate {A = ℕ} 16 value 15 0 (omega (arith, below))) (and_mask (get_or lookup (start + value) 0) 4))
