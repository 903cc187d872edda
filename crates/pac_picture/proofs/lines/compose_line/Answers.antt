use Rattle.pac_picture.proofs.Composed.{line-is}

pub returns-clause-line : Rattle.pac_picture.proofs.lines.compose_line.Goals.returns-clause-line
returns-clause-line c =
    line-is c.args.layer.now.roms c.args.screen.now c.args.y c.line.new.out c.paint_unless_none.new.out c.turn.new.out
    (rw (c.source-source.ensures.line, c.requires.drawn) at c.line.ensures.line)
    (λ x across. rw (c.graphics.ensures, c.line.ensures.same, c.source-source.ensures.line) at (c.paint_unless_none.ensures.dots x across))
    c.paint_unless_none.array_long (rw c.flip.ensures at c.turn.ensures)
