-- The numbers from one to another, and the values of a function at them.
use Rattle.pac_lemmas.proofs.Common.{Bool, ap, arith, cases_eq, drop, false, list_any, map, or_parts, range_with_len, rules, suc, sym, take}
use Rattle.pac_lemmas.proofs.Common.{take-map-range_with_len, zero, ℕ, ⊎_elim, ◌+◌, ◌-◌, ◌<◌, ◌∙◌, ◌≡◌, ◌≤◌}

pub drop-map-range : {X : Type 0} (f : ℕ → X) (at a n b m : ℕ) → at + m ≡ n → a + at ≡ b
    → drop at (map f (range_with_len a n)) ≡ map f (range_with_len b m)
drop-map-range f zero a n b m e s = search rules
drop-map-range f (suc at) a zero b m e s = absurd (omega arith)
drop-map-range f (suc at) a (suc n) b m e s = drop-map-range f at (a + 1) n b m (omega arith) (omega arith)

-- a part of the values
pub part-map-range : {X : Type 0} (f : ℕ → X) (at size n : ℕ) → at + size ≤ n
    → take size (drop at (map f (range_with_len 0 n))) ≡ map f (range_with_len at size)
part-map-range f at size n h =
    cc (drop-map-range f at 0 n at (n - at) (omega arith) (omega arith), take-map-range_with_len f at (n - at) size (omega arith))

-- a test that passes at none of them
pub fails-in-range : (p : ℕ → Bool) (at size k : ℕ) → list_any p (range_with_len at size) ≡ false → at ≤ k → k < at + size → p k ≡ false
fails-in-range p at zero k e low high = absurd (omega arith)
fails-in-range p at (suc size) k e low high =
    let parts = or_parts (p at) (list_any p (range_with_len (at + 1) size)) e in
    ⊎_elim
    (λ (same : at ≡ k). sym (ap p same) ∙ parts.0)
    (λ (other : at ≡ k → ⊥). fails-in-range p (at + 1) size k parts.1 (omega (arith, other)) (omega arith))
    (cases_eq at k)
