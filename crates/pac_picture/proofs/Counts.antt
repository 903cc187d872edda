-- Places that are counted one after another, and cells that are drawn so.
use Rattle.pac_picture.proofs.Common.{Bool, List, Shadow, add-one, arith, cell_differs, count_by, differing_cells, false, if◌then◌else◌}
use Rattle.pac_picture.proofs.Common.{nat_tests, refl, shadow_from, suc, sum_by_push, sym, tabulate, zero, ℕ, ◌+◌, ◌<◌, ◌≡◌, ◌≤◌}
use mathlib.Core.Bool.{cond}

pub count-more : (test : ℕ → Bool) (count : ℕ) →
    count_by test (tabulate (suc count) (λ k. k)) ≡ count_by test (tabulate count (λ k. k)) + cond (test count) 1 0
unfolding tabulate
count-more test count = sum_by_push (λ x. cond (test x) 1 0) (tabulate count (λ k. k)) count

-- none
pub count-none : (test : ℕ → Bool) → 0 ≡ count_by test (tabulate 0 (λ k. k))
unfolding tabulate
count-none test = refl

-- one more
pub count-step : (test : ℕ → Bool) (count so_far one : ℕ) → so_far ≡ count_by test (tabulate count (λ k. k)) →
    one ≡ (if test count then 1 else 0) → so_far + one ≡ count_by test (tabulate (count + 1) (λ k. k))
count-step test count so_far one is more = rw (add-one, count-more test count, is, more) refl

-- two tests that agree
pub count-same : (one other : ℕ → Bool) (count : ℕ) → ((k : ℕ) → k < count → one k ≡ other k) →
    count_by one (tabulate count (λ k. k)) ≡ count_by other (tabulate count (λ k. k))
unfolding tabulate
count-same one other zero same = refl
count-same one other (suc count) same = grind (arith, count-more, same, count-same one other count)

pub one-at-most : (test : Bool) (one : ℕ) → one ≡ (if test then 1 else 0) → one ≤ 1
one-at-most test one is = grind arith

count-never : (test : ℕ → Bool) (count : ℕ) → ((k : ℕ) → k < count → test k ≡ false) → count_by test (tabulate count (λ k. k)) ≡ 0
unfolding tabulate
count-never test zero never = refl
count-never test (suc count) never = grind (arith, count-more, never, count-never test count)

-- no cell differs from the bytes that it was drawn from
pub none-differ : (shadow : Shadow) (tiles colours : List ℕ) → shadow ≡ shadow_from tiles colours → 0 ≡ differing_cells shadow tiles colours
unfolding differing_cells
none-differ shadow tiles colours is =
    rw is (sym (count-never (cell_differs (shadow_from tiles colours) tiles colours) 36 (λ k below. grind (arith, nat_tests))))
