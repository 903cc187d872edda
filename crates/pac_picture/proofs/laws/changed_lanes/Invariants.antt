use Rattle.std.proofs.Common.{false, get_or, length, not, slice_index, ℕ, ◌*◌, ◌<◌, ◌==◌, ◌≡◌}

abbrev pub invariant-loop-vector : Rattle.pac_picture.proofs.laws.changed_lanes.Given.invariant-loop-vector
invariant-loop-vector l = record {
  long : length l.mask ≡ length l.initial.mask;
  within : (n : ℕ) → n < 16 * l.vector → get_or l.mask n false ≡ not (slice_index l.now n == slice_index l.shadow n);
}
