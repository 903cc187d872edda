use Rattle.pac_picture.proofs.Common.{get_or, if◌then◌else◌, length, nat_lt, over_line, ℕ, ◌<◌, ◌≡◌}

abbrev pub invariant-loop-x : Rattle.pac_picture.proofs.painting.paint_columns.Given.invariant-loop-x
invariant-loop-x l = record {
  long : length l.out ≡ 288;
  dots : (k : ℕ) → k < 288 →
      get_or l.out k 0 ≡ (if nat_lt k l.x then over_line l.line l.sprite k (get_or l.initial.out k 0) else get_or l.initial.out k 0);
}
