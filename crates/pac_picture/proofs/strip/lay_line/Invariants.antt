use Rattle.pac_picture.proofs.Common.{get_or, length, row_dot, ℕ, ◌*◌, ◌<◌, ◌≡◌}

abbrev pub invariant-loop-place : Rattle.pac_picture.proofs.strip.lay_line.Given.invariant-loop-place
invariant-loop-place l = record {
  long : length l.out ≡ 288;
  done : (x : ℕ) → x < 16 * l.place → get_or l.out x 0 ≡ row_dot l.lines x l.y;
}
