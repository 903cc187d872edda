use Rattle.pac_picture.proofs.Common.{beside, length, twin_dot, ℕ, ◌*◌, ◌<◌, ◌≡◌}

abbrev pub invariant-loop-pair : Rattle.pac_picture.proofs.strip.side_by_side.Given.invariant-loop-pair
invariant-loop-pair l = record {
  long : length l.twin ≡ 8;
  done : (x k : ℕ) → x < 16 → k < 2 * l.pair → twin_dot l.twin x k ≡ beside l.left l.right x k;
}
