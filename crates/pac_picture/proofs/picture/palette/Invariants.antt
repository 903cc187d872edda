use Rattle.pac_picture.proofs.Common.{[], get_or, length, rgb_of, slice_index, ℕ, ◌<◌, ◌≡◌}

abbrev pub invariant-loop-number : Rattle.pac_picture.proofs.picture.palette.Given.invariant-loop-number
invariant-loop-number l = record {
  long : length l.palette ≡ 16;
  filled : (n : ℕ) → n < l.number → get_or l.palette n [] ≡ rgb_of (slice_index l.colours n);
}
