-- Tests of all elements of a list, and the first that passes one.
use Rattle.pac_lemmas.proofs.Common.{All, All-head, All-tail, Bool, List, None, Some, [], and_from, and_parts, ap, arith, cases_Bool}
use Rattle.pac_lemmas.proofs.Common.{cases_lt, cond, cond-false, cond-true, fails_before_first, false, false≢true, filter, find, get_or}
use Rattle.pac_lemmas.proofs.Common.{if◌then◌else◌, inl, inr, le-ltb, length, list_all, list_any, lt-ltb, map, not, one-add, option_map}
use Rattle.pac_lemmas.proofs.Common.{passes_at_first, position, position_or_len, prefix_len, refl, rules, suc, sym, take, true, zero, ℕ}
use Rattle.pac_lemmas.proofs.Common.{◌+◌, ◌<◌, ◌||◌, ◌∙◌, ◌∷◌, ◌≡◌}
use Rattle.std.specs.Prelude.{is_some}

-- ---- all and any

pub list_all-get_or : {X : Type 0} (p : X → Bool) (xs : List X) (k : ℕ) (d : X) → list_all p xs ≡ true → k < length xs →
    p (get_or xs k d) ≡ true
list_all-get_or p [] k d all below = absurd (omega (arith, below))
list_all-get_or p (x ∷ xs) zero d all below = (and_parts (p x) (list_all p xs) all).0
list_all-get_or p (x ∷ xs) (suc k) d all below =
    list_all-get_or p xs k d (and_parts (p x) (list_all p xs) all).1 (omega (arith, below))

pub list_all-prefix : {X : Type 0} (p : X → Bool) (xs : List X) → list_all p (take (prefix_len p xs) xs) ≡ true
list_all-prefix p [] = refl
list_all-prefix p (x ∷ xs) = elim (cases_Bool (p x)) [
  | inl e ↦ rw (e, one-add) (and_from (p x) (list_all p (take (prefix_len p xs) xs)) e (list_all-prefix p xs))
  | inr e ↦ rw e refl
]

pub list_any-map : {X Y : Type 0} (p : Y → Bool) (f : X → Y) (xs : List X) → list_any p (map f xs) ≡ list_any (λ x. p (f x)) xs
list_any-map p f [] = refl
list_any-map p f (x ∷ xs) = ap (λ b. p (f x) || b) (list_any-map p f xs)

pub list_any-find : {X : Type 0} (p : X → Bool) (xs : List X) → list_any p xs ≡ is_some (find p xs)
list_any-find p [] = refl
list_any-find p (x ∷ xs) =
    elim (p x) as (λ b. (b || list_any p xs) ≡ is_some (cond b (Some x) (find p xs))) [
      | true ↦ refl
      | false ↦ list_any-find p xs
    ]

-- ---- the first element that passes

-- it is among those that another test leaves, where that one passes wherever the first does
pub find-filter : {X : Type 0} (p q : X → Bool) (xs : List X) → ((x : X) → p x ≡ true → q x ≡ true) → find p (filter q xs) ≡ find p xs
find-filter p q [] implied = refl
find-filter p q (x ∷ xs) implied =
    elim (cases_Bool (q x)) [
      | inl passes ↦ cc (cond-true (q x) (x ∷ filter q xs) (filter q xs) passes, find-filter p q xs implied)
      | inr fails ↦
          elim (cases_Bool (p x)) [
            | inl both ↦ absurd (false≢true (sym fails ∙ implied x both))
            | inr none ↦
                ap (find p) (cond-false (q x) (x ∷ filter q xs) (filter q xs) fails) ∙ find-filter p q xs implied ∙
                sym (cond-false (p x) (Some x) (find p xs) none)
          ]
    ]

-- it passes, and passes what all do
pub find-passes : {X : Type 0} (p q : X → Bool) (xs : List X) (x : X) → find p xs ≡ Some x → list_all q xs ≡ true →
    (p x ≡ true) × (q x ≡ true)
find-passes p q [] x found all = absurd (cc)
find-passes p q (y ∷ ys) x found all =
    let parts = and_parts (q y) (list_all q ys) all in
    elim (cases_Bool (p y)) [
      | inl passes ↦ grind (arith, cond-true)
      | inr fails ↦ find-passes p q ys x (sym (cond-false (p y) (Some y) (find p ys) fails) ∙ found) parts.1
    ]

-- tests that agree at each element find the same
pub find-same : {X : Type 0} (p q : X → Bool) (xs : List X) → All (λ x. p x ≡ q x) xs → find p xs ≡ find q xs
find-same p q [] same = refl
find-same p q (x ∷ xs) same = cc (All-head (λ y. p y ≡ q y) x xs same, find-same p q xs (All-tail (λ y. p y ≡ q y) x xs same))

-- and so do functions of what is found
pub find-map-same : {X Y : Type 0} (p : X → Bool) (f g : X → Y) (xs : List X) → All (λ x. f x ≡ g x) xs →
    option_map f (find p xs) ≡ option_map g (find p xs)
find-map-same p f g [] same = refl
find-map-same p f g (x ∷ xs) same =
    elim (p x) as (λ b. option_map f (cond b (Some x) (find p xs)) ≡ option_map g (cond b (Some x) (find p xs))) [
      | true ↦ ap Some (All-head (λ y. f y ≡ g y) x xs same)
      | false ↦ find-map-same p f g xs (All-tail (λ y. f y ≡ g y) x xs same)
    ]

-- ---- its place

first-place : (b : Bool) (n : ℕ) → cond b (Some (1 + n)) None ≡ option_map (λ k. 1 + k) (cond b (Some n) None)
first-place b n = search rules

pub position-cons : {X : Type 0} (p : X → Bool) (x : X) (xs : List X) →
    position p (x ∷ xs) ≡ (if p x then Some 0 else option_map (λ k. 1 + k) (position p xs))
position-cons p x xs = search rules

-- where all fail there is none
pub position_or_len-all-fail : {X : Type 0} (p : X → Bool) (xs : List X) → All (λ x. p x ≡ false) xs → position_or_len p xs ≡ length xs
position_or_len-all-fail p [] fails = refl
position_or_len-all-fail p (x ∷ xs) fails =
    let rest = position_or_len-all-fail p xs (All-tail (λ y. p y ≡ false) x xs fails) in
    ap (λ b. cond (not b) (1 + position_or_len p xs) 0) (All-head (λ y. p y ≡ false) x xs fails) ∙ omega (arith, rest)

pub position-all-fail : {X : Type 0} (p : X → Bool) (xs : List X) → All (λ x. p x ≡ false) xs → position p xs ≡ None
position-all-fail p xs fails = grind (arith, cond-false, le-ltb, position_or_len-all-fail)

-- where there is none all fail
pub fails-without-position : {X : Type 0} (p : X → Bool) (xs : List X) (k : ℕ) (d : X) → position p xs ≡ None → k < length xs →
    p (get_or xs k d) ≡ false
fails-without-position p xs k d none below = grind (arith, cases_lt, cond-true, fails_before_first, lt-ltb)

-- the only one that passes is the first
pub position-of-the-only : {X : Type 0} (p : X → Bool) (xs : List X) (k : ℕ) (d : X) → k < length xs → p (get_or xs k d) ≡ true →
    ((j : ℕ) → j < length xs → p (get_or xs j d) ≡ true → j ≡ k) → position p xs ≡ Some k
position-of-the-only p xs k d below passes alone =
    elim (cases_lt k (position_or_len p xs)) [
      | inl before ↦ let fails : true ≡ false = sym passes ∙ fails_before_first p xs k d before in absurd (cc)
      | inr reached ↦
          let inside : position_or_len p xs < length xs = omega (arith, below, reached) in
          cond-true _ _ _ (lt-ltb (position_or_len p xs) (length xs) inside) ∙
          ap Some (alone (position_or_len p xs) inside (passes_at_first p xs d inside))
    ]
