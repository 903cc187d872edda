-- The elements of a list after a change, and lists of one value.
use Rattle.pac_lemmas.proofs.Common.{List, Some, [], ap, arith, between-put_mid, drop, drop-put_mid, get_or, get_or-drop, get_or-take}
use Rattle.pac_lemmas.proofs.Common.{length, length-append, length-drop, length-take-le, refl, replicate, rules, set, slice_get, suc, sym}
use Rattle.pac_lemmas.proofs.Common.{take-put_mid_below, ℕ, ◌++◌, ◌+◌, ◌-◌, ◌<◌, ◌∙◌, ◌∷◌, ◌≡◌, ◌≤◌}
use borrow.Rule.Slice.PartMut.{put_mid}

-- a list that is filled place by place has its values at one place more
pub set-one-more : {A : Type 0} (xs : List A) (value : ℕ → A) (place : ℕ) (next other : A) → place < length xs → next ≡ value place →
    ((k : ℕ) → k < place → get_or xs k other ≡ value k) →
    (k : ℕ) → k < place + 1 → get_or (set xs place next) k other ≡ value k
set-one-more xs value place next other inside is so_far = search rules

-- a list of one value has it at each place, where the value past its end is that one, too
pub get_or-replicate-all : {A : Type 0} (count place : ℕ) (x : A) → get_or (replicate count x) place x ≡ x
get_or-replicate-all (suc count) (suc place) x = get_or-replicate-all count place x
get_or-replicate-all count place x = refl

-- the element that follows the first of two lists
pub slice_get-after : {A : Type 0} (xs : List A) (x : A) (more : List A) → slice_get (xs ++ x ∷ more) (length xs) ≡ Some x
slice_get-after [] x more = refl
slice_get-after (y ∷ xs) x more = slice_get-after xs x more

-- a part of a list written over: what is before it, after it and in it, and its length
pub get_or-before-put_mid : (a k : ℕ) (xs ys : List ℕ) (n : ℕ) → n < a → a ≤ length xs → get_or (put_mid a k xs ys) n 0 ≡ get_or xs n 0
get_or-before-put_mid a k xs ys n h fits =
    sym (get_or-take (n + 1) (put_mid a k xs ys) n 0 (omega arith))
    ∙ ap (λ (l : List ℕ). get_or l n 0) (take-put_mid_below a k xs ys (n + 1) (omega arith) fits)
    ∙ get_or-take (n + 1) xs n 0 (omega arith)

pub get_or-after-put_mid : (a k : ℕ) (xs ys : List ℕ) (n : ℕ) → a + k ≤ n → a ≤ length xs → length ys ≡ k →
    get_or (put_mid a k xs ys) n 0 ≡ get_or xs n 0
get_or-after-put_mid a k xs ys n h fits whole =
    let same : n ≡ n + 0 = omega arith in
    cc (same, get_or-drop n (put_mid a k xs ys) 0 0, drop-put_mid a k xs ys n h fits whole, get_or-drop n xs 0 0)

pub get_or-in-put_mid : (a k : ℕ) (xs ys : List ℕ) (j : ℕ) → j < k → a ≤ length xs → length ys ≡ k →
    get_or (put_mid a k xs ys) (a + j) 0 ≡ get_or ys j 0
get_or-in-put_mid a k xs ys j h fits whole =
    sym (get_or-drop a (put_mid a k xs ys) j 0)
    ∙ sym (get_or-take (a + k - a) (drop a (put_mid a k xs ys)) j 0 (omega arith))
    ∙ ap (λ (l : List ℕ). get_or l j 0) (between-put_mid a k xs ys (a + k) fits (omega arith))

pub length-put_mid : (a k : ℕ) (xs ys : List ℕ) → a + k ≤ length xs → length ys ≡ k → length (put_mid a k xs ys) ≡ length xs
length-put_mid a k xs ys fits whole = grind (arith, length-append, length-drop, length-take-le)
