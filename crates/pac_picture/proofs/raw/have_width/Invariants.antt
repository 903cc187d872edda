use Rattle.std.proofs.Common.{◌≡◌, ℕ, ◌<◌, [], get_or, length}

abbrev pub invariant-loop-y : Rattle.pac_picture.proofs.raw.have_width.Given.invariant-loop-y
invariant-loop-y l = record {
  high : 0 < l.y → length l.lines ≡ 224;
  wide : (k : ℕ) → k < l.y → length (get_or l.lines k []) ≡ 288;
}
