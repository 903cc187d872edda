use Rattle.pac_media.proofs.Common.{IsDrawnTo, ◌*◌}

abbrev pub invariant-loop-part : Rattle.pac_media.proofs.image.redraw_line.Given.invariant-loop-part
invariant-loop-part l = IsDrawnTo l.palette (32 * l.part) l.numbers l.pixels l.kept
