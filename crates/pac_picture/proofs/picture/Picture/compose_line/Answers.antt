use Rattle.pac_picture.proofs.CleanLines.{flip-looked}
use Rattle.pac_picture.proofs.picture.Picture.compose_line.Goals as goal

pub compose_line-requires-clause-drawn : goal.compose_line-requires-clause-drawn
compose_line-requires-clause-drawn c = rw c.source-row.ensures.line at c.draw_row-self-inside.ensures.drawn

pub compose_line-requires-clause-clean : goal.compose_line-requires-clause-clean
compose_line-requires-clause-clean c =
    rw (c.turn.ensures.flip, c.turn.ensures.sprites)
    (flip-looked c.draw_row-self-inside.new.clean.lines c.turn.new.self.lines c.draw_row-self-inside.new.clean.flip c.flip.result
    c.draw_row-self-inside.new.clean.sprites c.draw_row-self-inside.new.layer.roms _ c.self.inside.lines
    (c.draw_row-self-inside.ensures.clean c.self.inside.lines c.self.invariant.clean) c.turn.ensures.lines)
