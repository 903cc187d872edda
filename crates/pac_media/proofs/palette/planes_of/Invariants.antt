use Rattle.std.proofs.Common.{[], get_or, length, ℕ, ◌<◌, ◌∷◌, ◌≡◌}

abbrev pub invariant-loop-number : Rattle.pac_media.proofs.palette.planes_of.Given.invariant-loop-number
invariant-loop-number l = record {
  red_long : length l.reds ≡ 16;
  green_long : length l.greens ≡ 16;
  blue_long : length l.blues ≡ 16;
  made : (k : ℕ) → k < l.number → get_or l.colours k [] ≡ get_or l.reds k 0 ∷ get_or l.greens k 0 ∷ get_or l.blues k 0 ∷ [];
}
