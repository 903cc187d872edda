-- The map of all addresses marks those that are breakpoints.
use Rattle.pac_debug_session.proofs.Common.{AreStops, Bool, List, Some, [], any-filter_same, ap, arith, false, filter, get_or-set_other}
use Rattle.pac_debug_session.proofs.Common.{get_or-set_same, length, list_any, nat_tests, not, refl, replicate, slice_index, slice_set, suc}
use Rattle.pac_debug_session.proofs.Common.{sym, true, ℕ, ◌<◌, ◌==◌, ◌∙◌, ◌≡◌}

-- zeros mark none
zeros-at : (n at : ℕ) → slice_index (replicate n 0) at ≡ 0
zeros-at (suc n) (suc at) = zeros-at n at
zeros-at n at = refl

pub none-marked : (n : ℕ) → AreStops (Some (replicate n 0)) []
none-marked n at = ap (λ byte. not (byte == 0)) (zeros-at n at)

module _ (marks xs : List ℕ) (address : ℕ) (there : address < length marks) (so_far : AreStops (Some marks) xs) where
  -- one less
  pub one-unmarked : AreStops (Some (slice_set marks address 0)) (filter (λ other. not (other == address)) xs)
  one-unmarked at = choose (address == at) refl
    where
      choose : (b : Bool) → (address == at) ≡ b
          → not (slice_index (slice_set marks address 0) at == 0)
          ≡ list_any (λ other. other == at) (filter (λ other. not (other == address)) xs)
      choose true e =
          let same : at ≡ address = grind (arith, nat_tests) in
          ap (λ byte. not (byte == 0)) (ap (slice_index (slice_set marks address 0)) same ∙ get_or-set_same marks address 0 0 there)
          ∙ sym (any-filter_same (λ other. other == at) (λ other. not (other == address)) false
          (λ other is. let alike : (other == address) ≡ true = grind (arith, nat_tests) in ap not alike) xs)
      choose false e =
          ap (λ byte. not (byte == 0)) (get_or-set_other marks address at 0 0 (λ same. absurd (grind (arith, nat_tests))))
          ∙ so_far at
          ∙ sym (any-filter_same (λ other. other == at) (λ other. not (other == address)) true
          (λ other is. let apart : (other == address) ≡ false = grind (arith, nat_tests) in ap not apart) xs)
