use Rattle.pac_picture.proofs.Common.{[], get_or, length, picture_line, ℕ, ◌<◌, ◌≡◌}

abbrev pub invariant-loop-y : Rattle.pac_picture.proofs.lines.Lines.compose.Given.invariant-loop-y
invariant-loop-y l = record {
  layer : l.layer ≡ l.fn.layer;
  high : length l.self-inside.lines ≡ 224;
  done : (k : ℕ) → k < l.y → get_or l.self-inside.lines k [] ≡ picture_line l.fn.layer.roms l.screen k;
}
