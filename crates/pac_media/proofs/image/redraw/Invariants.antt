use Rattle.pac_media.proofs.Common.{IsPicture, [], get_or, length, ppm_of, ℕ, ◌<◌, ◌≡◌}

abbrev pub invariant-loop-y : Rattle.pac_media.proofs.image.redraw.Given.invariant-loop-y
invariant-loop-y l = record {
  picture : IsPicture l.kept;
  drawn : l.image ≡ ppm_of l.kept l.palette;
  high : 0 < l.y → length l.lines ≡ 224;
  same : (k : ℕ) → k < l.y → get_or l.kept k [] ≡ get_or l.lines k [];
}
