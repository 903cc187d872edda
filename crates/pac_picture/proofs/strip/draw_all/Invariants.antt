use Rattle.pac_picture.proofs.Common.{AreDrawn, IsTwin, true, ◌-◌, ◌≤◌}

abbrev pub invariant-loop-place : Rattle.pac_picture.proofs.strip.draw_all.Given.invariant-loop-place
invariant-loop-place l = record {
  last : 1 ≤ l.place → IsTwin l.graphics l.tiles l.colours (l.place - 1) l.twin;
  drawn : AreDrawn l.graphics l.tiles l.colours (λ _. true) l.place l.lines;
}
