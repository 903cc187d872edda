use Rattle.pac_picture.proofs.Common.{differing_in, drawn_from, length, shadow_at, sum, tabulate, ℕ, ◌*◌, ◌<◌, ◌≡◌, ◌≤◌}

abbrev pub invariant-loop-row : Rattle.pac_picture.proofs.layer.Layer.refresh_all.Given.invariant-loop-row
invariant-loop-row l = record {
  high : 0 < l.row → length l.self.shadows ≡ 28;
  roms : l.self.roms ≡ l.initial.self.roms;
  done : (k : ℕ) → k < l.row → shadow_at l.self.shadows k ≡ drawn_from l.screen k;
  rest : (k : ℕ) → l.row ≤ k → shadow_at l.self.shadows k ≡ shadow_at l.initial.self.shadows k;
  counted : l.drawn ≡ sum (tabulate l.row (differing_in l.initial.self.shadows l.screen));
  below : l.drawn ≤ 36 * l.row;
}
