use Rattle.pac_picture.proofs.Common.{MarksClean, drawn_from, lines_composed, shadow_at, ◌-◌, ◌<◌, ◌≡◌}

abbrev pub invariant-loop-y : Rattle.pac_picture.proofs.picture.compose_each.Given.invariant-loop-y
invariant-loop-y l = record {
  done : l.lines ≡ lines_composed l.fn.layer.roms l.screen l.fn.lines l.fn.first (l.y - l.fn.first);
  roms : l.layer.roms ≡ l.fn.layer.roms;
  clean : MarksClean l.clean l.layer l.lines;
  flip : l.clean.flip ≡ l.screen.flip;
  drawn : l.last < 28 → shadow_at l.layer.shadows l.last ≡ drawn_from l.screen l.last;
}
