-- The entry of a frame, found by halving a table whose last frames rise.
use Rattle.pac_inputs.proofs.Common.{AllAdjacentBelow, AllWithin, Bool, HeldUntil, IsNonDecreasingBy-from_all_adjacent, IsPartitionedBy}
use Rattle.pac_inputs.proofs.Common.{IsPartitionedBy-ltb, List, Rises, [], add-one, arith, false, get_or, held_up_to, length, ltb, mask}
use Rattle.pac_inputs.proofs.Common.{nat_le, nat_tests, refl, suc, true, zero, ℕ, ◌<◌, ◌∷◌, ◌≡◌, ◌≤◌}

-- whether an entry ends before a frame
abbrev pub is_over : ℕ → HeldUntil → Bool
is_over frame entry = ltb entry.end frame

next-rises : (before : ℕ) (entries : List HeldUntil) → Rises before entries → (k : ℕ) (d : HeldUntil) → suc k < length entries
    → (get_or entries k d).end ≤ (get_or entries (suc k) d).end
next-rises before (entry ∷ second ∷ entries) (first, more) zero d small = more.0
next-rises before (entry ∷ second ∷ entries) (first, more) (suc k) d small =
    next-rises entry.end (second ∷ entries) more k d (omega (arith, small))
next-rises before entries h k d small = absurd (omega (arith, small))

pub ends-parted : (entries : List HeldUntil) (frame : ℕ) → Rises 0 entries → IsPartitionedBy (is_over frame) entries
ends-parted entries frame h =
    let ends : HeldUntil → ℕ = λ entry. entry.end in
    let each : AllAdjacentBelow (λ x y. ends x ≤ ends y) entries (length entries) =
    λ k d small. rw add-one (next-rises 0 entries h k d (omega (arith, small))) in
    IsPartitionedBy-ltb ends entries frame (IsNonDecreasingBy-from_all_adjacent ends entries each)

abbrev pub IsOver : ℕ → HeldUntil → Type 0
IsOver frame entry = is_over frame entry ≡ true

abbrev pub IsOpen : ℕ → HeldUntil → Type 0
IsOpen frame entry = is_over frame entry ≡ false

pub none-open : (entries : List HeldUntil) (frame : ℕ) → AllWithin (IsOver frame) entries 0 (length entries) → held_up_to entries frame ≡ 0
none-open [] frame h = refl
none-open (entry ∷ entries) frame h =
    let over : ltb entry.end frame ≡ true = h 0 entry (omega arith) (omega arith) in
    let not_this : nat_le frame entry.end ≡ false = grind (arith, nat_tests) in
    rw not_this (none-open entries frame (λ k d low high. h (suc k) d (omega arith) (omega (arith, high))))

pub first-open : (entries : List HeldUntil) (frame i : ℕ) (d : HeldUntil) → i < length entries → AllWithin (IsOver frame) entries 0 i
    → AllWithin (IsOpen frame) entries i (length entries) → held_up_to entries frame ≡ mask (get_or entries i d).inputs
first-open [] frame i d small over open_ = absurd (omega (arith, small))
first-open (entry ∷ entries) frame zero d small over open_ =
    let this : ltb entry.end frame ≡ false = open_ 0 d (omega arith) small in
    let here : nat_le frame entry.end ≡ true = grind (arith, nat_tests) in
    rw here refl
first-open (entry ∷ entries) frame (suc i) d small over open_ =
    let past : ltb entry.end frame ≡ true = over 0 d (omega arith) (omega arith) in
    let not_this : nat_le frame entry.end ≡ false = grind (arith, nat_tests) in
    rw not_this (first-open entries frame i d (omega (arith, small)) (λ k e low high. over (suc k) e (omega arith) (omega (arith, high)))
    (λ k e low high. open_ (suc k) e (omega (arith, low)) (omega (arith, high))))
