-- The bytes of a row of cells.
use Rattle.pac_picture.proofs.Common.{List, [], arith, cells_of, get_or, get_or-set_at, get_or-set_other, get_or_append_left, length}
use Rattle.pac_picture.proofs.Common.{length-append, nat_tests, offset_of, set, slice_index, suc, tabulate-is, zero, ℕ, ◌*◌, ◌++◌, ◌+◌, ◌<◌}
use Rattle.pac_picture.proofs.Common.{◌∷◌, ◌≡◌}
use Rattle.std.proofs.lemmas.List.{length-set}

-- the cells in the middle of a row follow one another
pub offset-middle : (k row : ℕ) → k < 32 → offset_of (suc (suc k)) row ≡ 32 * (row + 2) + k
offset-middle k row below = grind (arith, nat_tests)

-- the 32 in the middle, and two on the right
right : (middle : List ℕ) (c d : ℕ) → List ℕ
right middle c d = set (set (middle ++ 0 ∷ 0 ∷ []) 32 c) 33 d

right-at : (ram middle : List ℕ) (row c d k : ℕ) → k < 34 → length middle ≡ 32 →
    ((n : ℕ) → n < 32 → get_or middle n 0 ≡ get_or ram (32 * (row + 2) + n) 0) →
    c ≡ slice_index ram (offset_of 34 row) → d ≡ slice_index ram (offset_of 35 row) →
    get_or (right middle c d) k 0 ≡ slice_index ram (offset_of (suc (suc k)) row)
unfolding right
right-at ram middle row c d k below long same is_c is_d =
    grind (arith, get_or-set_other, get_or-set_at, get_or_append_left, offset-middle, length-append, length-set)

row-at : (ram middle : List ℕ) (row a b c d : ℕ) → length middle ≡ 32 →
    ((n : ℕ) → n < 32 → get_or middle n 0 ≡ get_or ram (32 * (row + 2) + n) 0) →
    a ≡ slice_index ram (offset_of 0 row) → b ≡ slice_index ram (offset_of 1 row) →
    c ≡ slice_index ram (offset_of 34 row) → d ≡ slice_index ram (offset_of 35 row) →
    (k : ℕ) → k < 36 → get_or (a ∷ b ∷ right middle c d) k 0 ≡ slice_index ram (offset_of k row)
row-at ram middle row a b c d long same is_a is_b is_c is_d (suc (suc k)) below =
    right-at ram middle row c d k (omega (arith, below)) long same is_c is_d
row-at ram middle row a b c d long same is_a is_b is_c is_d zero below = is_a
row-at ram middle row a b c d long same is_a is_b is_c is_d (suc zero) below = is_b

pub cells-are : (ram middle : List ℕ) (row a b c d : ℕ) → length middle ≡ 32 →
    ((n : ℕ) → n < 32 → get_or middle n 0 ≡ get_or ram (32 * (row + 2) + n) 0) →
    a ≡ slice_index ram (offset_of 0 row) → b ≡ slice_index ram (offset_of 1 row) →
    c ≡ slice_index ram (offset_of 34 row) → d ≡ slice_index ram (offset_of 35 row) →
    a ∷ b ∷ set (set (middle ++ 0 ∷ 0 ∷ []) 32 c) 33 d ≡ cells_of ram row
unfolding cells_of right
cells-are ram middle row a b c d long same is_a is_b is_c is_d =
    tabulate-is _ 36 _ 0 (rw (length-set, length-set) (simp length-append (omega (arith, long))))
    (row-at ram middle row a b c d long same is_a is_b is_c is_d)
