use Rattle.std.proofs.Common.{false, get_or, length, ℕ, ◌<◌, ◌||◌, ◌≡◌}

abbrev pub invariant-loop-k : Rattle.pac_picture.proofs.layer.either.Given.invariant-loop-k
invariant-loop-k l = record {
  long : length l.any ≡ 36;
  filled : (n : ℕ) → n < l.k → get_or l.any n false ≡ (get_or l.one n false || get_or l.other n false);
}
