use Rattle.pac_picture.specs.Strips.{has_marked, AreDrawn}

abbrev pub invariant-loop-place : Rattle.pac_picture.proofs.strip.redraw.Given.invariant-loop-place
invariant-loop-place l = AreDrawn l.graphics l.tiles l.colours (has_marked l.mask) l.place l.lines
