use Rattle.std.proofs.Common.{false, get_or, length, not, slice_index, ℕ, ◌<◌, ◌==◌, ◌≡◌}

abbrev pub invariant-loop-place : Rattle.pac_picture.proofs.laws.changed.Given.invariant-loop-place
invariant-loop-place l = record {
  long : length l.mask ≡ length l.now;
  within : (n : ℕ) → n < l.place → get_or l.mask n false ≡ not (slice_index l.now n == slice_index l.shadow n);
}
