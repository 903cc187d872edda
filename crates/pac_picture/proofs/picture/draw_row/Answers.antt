use Rattle.pac_picture.proofs.CleanLines.{row-drawn}
use Rattle.pac_picture.proofs.Layers.{shadow-set}
use Rattle.pac_picture.proofs.picture.draw_row.Goals as goal

pub returns-clause-clean : goal.returns-clause-clean
returns-clause-clean c = λ lines before.
    rw (c.refresh-cells.ensures.layer, c.redrawn.ensures.sprites)
    (row-drawn c.args.layer.now.roms c.args.screen.now c.args.clean.now.lines c.redrawn.new.self.lines c.args.clean.now.flip
    c.redrawn.new.self.flip c.args.clean.now.sprites c.args.layer.now.shadows lines c.args.row c.refresh-cells.result before
    c.refresh-cells.ensures.high c.requires c.refresh-cells.ensures.count c.redrawn.ensures.flip c.redrawn.ensures.lines
    c.redrawn.ensures.row)

pub returns-clause-drawn : goal.returns-clause-drawn
returns-clause-drawn c =
    rw c.refresh-cells.ensures.layer (shadow-set c.args.layer.now.shadows c.args.row _ c.refresh-cells.ensures.high c.requires)
