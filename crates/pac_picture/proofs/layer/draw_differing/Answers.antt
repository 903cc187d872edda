use Rattle.pac_picture.proofs.Common.{differing_cells, sym, ◌∙◌}
use Rattle.pac_picture.proofs.Counts.{count-same}
use Rattle.pac_picture.proofs.Stale.{row-counts}
use Rattle.pac_picture.proofs.Strips.{cells-kept}
use Rattle.pac_picture.proofs.layer.draw_differing.Goals as goal

pub returns-then-not-shadow-clause-count : goal.returns-then-not-shadow-clause-count
returns-then-not-shadow-clause-count c = sym (row-counts c.args.shadow.now c.args.tiles.now c.args.colours.now c.if-not-shadow.true)

pub redraw-requires : goal.redraw-requires
redraw-requires c =
    cells-kept c.args.graphics.now c.args.shadow.now c.args.tiles.now c.args.colours.now c.differing-mask.result c.args.lines.now
    c.requires.drawn c.if-not-shadow.false c.differing-mask.ensures

pub returns-clause-count : goal.returns-clause-count
unfolding differing_cells
returns-clause-count c = c.marked.ensures.count ∙ count-same _ _ 36 c.differing-mask.ensures
