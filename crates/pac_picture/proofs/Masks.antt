-- Vectors compared lane by lane.
use Rattle.pac_picture.proofs.Common.{Bool, List, arith, cases_eq, cases_lt, cells_of, false, get_or, get_or-chunk, if◌then◌else◌, length}
use Rattle.pac_picture.proofs.Common.{length-chunk, nat_tests, not, offset_of, slice_index, tabulate-is, true, zero-div, ℕ, ◌%◌, ◌*◌, ◌+◌}
use Rattle.pac_picture.proofs.Common.{◌-◌, ◌/◌, ◌<◌, ◌==◌, ◌^◌, ◌∙◌, ◌≡◌, ◌≤◌}
use Rattle.pac_picture.proofs.Boxes.{lane-bit}
use lib.Lanes.{chunk, zip2, mask_l, top}
use lib.Dec.{eqb}
use mathlib.Core.Bool.{cond}
use mathlib.Core.List.{map}
use Rattle.pac_picture.proofs.Cells.{offset-middle}

differs : ℕ → ℕ → Bool
differs a b = not (eqb a b)

bit-of : (t : Bool) → ◌≡◌ {A = ℕ} (cond (not t) 1 0) (if t then 0 else 1)
bit-of t = grind arith

-- each bit of the mask of sixteen lanes
pub differs-bit : (now shadow : List ℕ) (from start k : ℕ) → from + 16 ≤ length now → start + 16 ≤ length shadow → k < 16 →
    mask_l (map (top 7) (zip2 (λ a b. cond (not (eqb a b)) 255 0) (chunk from 16 now) (chunk start 16 shadow))) % 2 ^ 64 / 2 ^ k % 2
    ≡ (if slice_index now (from + k) == slice_index shadow (start + k) then 0 else 1)
unfolding differs
differs-bit now shadow from start k room same below =
    lane-bit differs (chunk from 16 now) (chunk start 16 shadow) k (length-chunk from 16 now room) (length-chunk start 16 shadow same) below
    ∙ rw (get_or-chunk from 16 now k 0 below, get_or-chunk start 16 shadow k 0 below)
    (bit-of (eqb (get_or now (from + k) 0) (get_or shadow (start + k) 0)))

test-of : (t : Bool) → eqb (if t then 0 else 1) 1 ≡ not t
test-of t = grind (arith, nat_tests)

-- sixteen places more
pub lanes-step : (now shadow : List ℕ) (mask next : List Bool) (vector bits : ℕ) →
    ((k : ℕ) → k < 16 → bits / 2 ^ k % 2 ≡ (if slice_index now (16 * vector + k) == slice_index shadow (16 * vector + k) then 0 else 1)) →
    ((k : ℕ) → k < 16 → get_or next (16 * vector + k) false ≡ (bits / 2 ^ k % 2 == 1)) →
    ((k : ℕ) → k < 16 * vector → get_or next k false ≡ get_or mask k false) →
    ((n : ℕ) → n < 16 * vector → get_or mask n false ≡ not (slice_index now n == slice_index shadow n)) →
    (n : ℕ) → n < 16 * (vector + 1) → get_or next n false ≡ not (slice_index now n == slice_index shadow n)
lanes-step now shadow mask next vector bits told spread kept so_far n below =
    let place : 16 * vector ≤ n → 16 * vector + (n - 16 * vector) ≡ n = λ past. omega (arith, past) in
    grind (arith, cases_lt, told (n - 16 * vector), spread (n - 16 * vector), kept, so_far, test-of, place)

bit-false : (t : Bool) → ◌≡◌ {A = ℕ} 0 (if t then 0 else 1) → t ≡ true
bit-false t is = grind arith

none-of : (bits : ℕ) (t : Bool) (k : ℕ) → bits ≡ 0 → bits / 2 ^ k % 2 ≡ (if t then 0 else 1) → t ≡ true
none-of bits t k none told = bit-false t (rw (none, zero-div (2 ^ k)) at told)

-- sixteen places of which none differs
same-sixteen : (now shadow : List ℕ) (bits from start k : ℕ) → bits ≡ 0 →
    ((k : ℕ) → k < 16 → bits / 2 ^ k % 2 ≡ (if slice_index now (from + k) == slice_index shadow (start + k) then 0 else 1)) → k < 16 →
    slice_index shadow (start + k) ≡ slice_index now (from + k)
same-sixteen now shadow bits from start k none told below = grind (arith, nat_tests, none-of, told)

middle-cells : (ram bytes : List ℕ) (row first second n k : ℕ) → k ≡ n + 2 → n < 32 → first ≡ 0 → second ≡ 0 →
    ((k : ℕ) → k < 16 → first / 2 ^ k % 2
    ≡ (if slice_index ram (32 * (row + 2) + k) == slice_index bytes (2 + k) then 0 else 1)) →
    ((k : ℕ) → k < 16 → second / 2 ^ k % 2
    ≡ (if slice_index ram (32 * (row + 2) + 16 + k) == slice_index bytes (18 + k) then 0 else 1)) →
    slice_index bytes k ≡ slice_index ram (offset_of k row)
middle-cells ram bytes row first second n k is below none_first none_second first_told second_told =
    let low = same-sixteen ram bytes first (32 * (row + 2)) 2 n none_first first_told in
    let high = same-sixteen ram bytes second (32 * (row + 2) + 16) 18 (n - 16) none_second second_told in
    grind (arith, cases_lt, offset-middle, low, high)

-- the bytes of a row of cells, the 32 in the middle by two vectors
pub same-cells : (ram bytes : List ℕ) (row first second : ℕ) → length bytes ≡ 36 → first ≡ 0 → second ≡ 0 →
    ((k : ℕ) → k < 16 → first / 2 ^ k % 2
    ≡ (if slice_index ram (32 * (row + 2) + k) == slice_index bytes (2 + k) then 0 else 1)) →
    ((k : ℕ) → k < 16 → second / 2 ^ k % 2
    ≡ (if slice_index ram (32 * (row + 2) + 16 + k) == slice_index bytes (18 + k) then 0 else 1)) →
    slice_index ram (offset_of 0 row) ≡ slice_index bytes 0 → slice_index ram (offset_of 1 row) ≡ slice_index bytes 1 →
    slice_index ram (offset_of 34 row) ≡ slice_index bytes 34 → slice_index ram (offset_of 35 row) ≡ slice_index bytes 35 →
    bytes ≡ cells_of ram row
unfolding cells_of
same-cells ram bytes row first second long none_first none_second first_told second_told a b c d =
    tabulate-is bytes 36 _ 0 long (λ k below.
    let inner = middle-cells ram bytes row first second (k - 2) k in
    grind (arith, nat_tests, cases_eq, cases_lt, inner, first_told, second_told))
