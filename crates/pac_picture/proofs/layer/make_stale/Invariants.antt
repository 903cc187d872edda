use Rattle.pac_picture.proofs.Common.{length, made_stale, shadow_at, ℕ, ◌<◌, ◌≡◌, ◌≤◌}

abbrev pub invariant-loop-shadow : Rattle.pac_picture.proofs.layer.make_stale.Given.invariant-loop-shadow
invariant-loop-shadow l = record {
  long : length l.shadows ≡ length l.initial.shadows;
  made : (k : ℕ) → k < l.shadow-index → shadow_at l.shadows k ≡ made_stale (shadow_at l.initial.shadows k);
  rest : (k : ℕ) → l.shadow-index ≤ k → shadow_at l.shadows k ≡ shadow_at l.initial.shadows k;
}
