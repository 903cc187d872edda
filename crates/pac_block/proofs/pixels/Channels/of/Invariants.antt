use Rattle.pac_block.proofs.Common.{get_or, length, rgb_of, slice_index, ℕ, ◌<◌, ◌≡◌}

abbrev pub invariant-loop-number : Rattle.pac_block.proofs.pixels.Channels.of.Given.invariant-loop-number
invariant-loop-number l = record {
  red_long : length l.reds ≡ 16;
  green_long : length l.greens ≡ 16;
  blue_long : length l.blues ≡ 16;
  red : (n : ℕ) → n < l.number → get_or l.reds n 0 ≡ slice_index (rgb_of (slice_index l.colours n)) 0;
  green : (n : ℕ) → n < l.number → get_or l.greens n 0 ≡ slice_index (rgb_of (slice_index l.colours n)) 1;
  blue : (n : ℕ) → n < l.number → get_or l.blues n 0 ≡ slice_index (rgb_of (slice_index l.colours n)) 2;
}
