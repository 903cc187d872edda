-- The lines of sprites' boxes, looked for in the lanes of a vector.
use Rattle.pac_picture.proofs.Common.{Bool, List, [], arith, bit_mask_l, cond, false, get_or, get_or-chunk, get_or-replicate-all}
use Rattle.pac_picture.proofs.Common.{get_or-zip2, if◌then◌else◌, ints, is_in_box, length, length-chunk, length-replicate, length-zip2, map}
use Rattle.pac_picture.proofs.Common.{mask_l-mod, nat_tests, pos, refl, replicate, slice_index, suc, sym, tops_compared, zero, zero-div, ℕ}
use Rattle.pac_picture.proofs.Common.{◌%◌, ◌*◌, ◌+◌, ◌-ℤ◌, ◌-◌, ◌/◌, ◌<◌, ◌^◌, ◌∙◌, ◌∷◌, ◌≡◌}
use lib.Lanes.{chunk, zip2, mask_l, top}
use lib.Dec.{ltb}
use mir.Syntax.{w8}

-- each bit of the mask of a test of sixteen lanes
pub lane-bit : (test : ℕ → ℕ → Bool) (one other : List ℕ) (k : ℕ) → length one ≡ 16 → length other ≡ 16 → k < 16 →
    mask_l (map (top 7) (zip2 (λ a b. cond (test a b) 255 0) one other)) % 2 ^ 64 / 2 ^ k % 2
    ≡ cond (test (get_or one k 0) (get_or other k 0)) 1 0
lane-bit test one other k long_one long_other below =
    let tests : List Bool = zip2 test one other in
    let long = length-zip2 test one other (long_one ∙ sym long_other) ∙ long_one in
    rw (
      tops_compared w8 test one other,
      mask_l-mod tests 64 (omega (arith, long)),
      bit_mask_l tests k,
      get_or-zip2 test one other k 0 0 false (omega (arith, long_one, below)) (omega (arith, long_other, below)),
    )

-- how many lines a box has, for the bytes of so many sprites
abbrev box_lines : ℕ → List ℕ
box_lines zero = []
box_lines (suc count) = 16 ∷ 0 ∷ box_lines count

box_lines-at : (count k : ℕ) → k < count → get_or (box_lines count) (2 * k) 0 ≡ 16
box_lines-at (suc count) (suc k) below = grind (arith, box_lines-at count k)
box_lines-at (suc count) zero below = refl
box_lines-at zero k below = absurd (omega (arith, below))

one-where : (t : Bool) → ◌≡◌ {A = ℕ} (cond t 1 0) (if t then 1 else 0)
one-where t = grind arith

box-test : (line y : ℕ) → line < 256 → y < 224 → ltb ((y + 31 + (256 - line)) % 256) 16 ≡ is_in_box (pos line -ℤ pos 31) y
box-test line y low down = grind (arith, ints, nat_tests)

pub box-bit : (coordinates : List ℕ) (y : ℕ) → length coordinates ≡ 16 → y < 224 →
    ((k : ℕ) → slice_index coordinates k < 256) → (k : ℕ) → k < 8 →
    mask_l (map (top 7) (zip2 (λ a b. cond (ltb a b) 255 0)
    (zip2 (λ a b. (a + (256 - b)) % 256) (replicate 16 (y + 31)) (chunk 0 16 coordinates)) (box_lines 8))) % 2 ^ 64 / 2 ^ (2 * k) % 2
    ≡ (if is_in_box (pos (slice_index coordinates (2 * k)) -ℤ pos 31) y then 1 else 0)
box-bit coordinates y long down bytes k below =
    let minus : ℕ → ℕ → ℕ = λ a b. (a + (256 - b)) % 256 in
    let places : List ℕ = replicate 16 (y + 31) in
    let piece : List ℕ = chunk 0 16 coordinates in
    let long_places : length places ≡ 16 = length-replicate {A = ℕ} 16 (y + 31) in
    let long_piece : length piece ≡ 16 = length-chunk 0 16 coordinates (omega (arith, long)) in
    let long_moved = length-zip2 minus places piece (long_places ∙ sym long_piece) ∙ long_places in
    let place : 2 * k < 16 = omega (arith, below) in
    let index : 0 + 2 * k ≡ 2 * k = omega arith in
    lane-bit ltb (zip2 minus places piece) (box_lines 8) (2 * k) long_moved refl place
    ∙ rw (
      get_or-zip2 minus places piece (2 * k) (y + 31) 0 0 (omega (arith, place, long_places)) (omega (arith, place, long_piece)),
      get_or-replicate-all {A = ℕ} 16 (2 * k) (y + 31),
      get_or-chunk 0 16 coordinates (2 * k) 0 place,
      index,
      box_lines-at 8 k below,
      box-test (slice_index coordinates (2 * k)) y (bytes (2 * k)) down,
    )
    (one-where (is_in_box (pos (slice_index coordinates (2 * k)) -ℤ pos 31) y))

-- ---- boxes told by bits

pub bit-none : (t : Bool) → ◌≡◌ {A = ℕ} (if t then 1 else 0) 0 → t ≡ false
bit-none t is = grind arith

-- no box is there where no bit is set
pub none-there : (bits : ℕ) (box : Bool) (k : ℕ) → bits ≡ 0 → bits / 2 ^ k % 2 ≡ (if box then 1 else 0) → box ≡ false
none-there bits box k none told = bit-none box (sym told ∙ rw (none, zero-div (2 ^ k)) refl)
