use Rattle.pac_picture.proofs.Composed.{line-is}

pub returns : Rattle.pac_picture.proofs.lines.compose_alone.Goals.returns
returns c =
    line-is c.args.graphics.now c.args.screen.now c.args.y c.lay_alone.new.out c.paint_unless_none.new.out c.turn.new.out
    (rw c.source-source.ensures.line at c.lay_alone.ensures)
    (λ x across. rw c.source-source.ensures.line at (c.paint_unless_none.ensures.dots x across))
    c.paint_unless_none.array_long (rw c.flip.ensures at c.turn.ensures)
