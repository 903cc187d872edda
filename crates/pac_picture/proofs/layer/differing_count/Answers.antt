use Rattle.pac_picture.proofs.Common.{differing_cells, sym, ◌∙◌}
use Rattle.pac_picture.proofs.Counts.{count-same}
use Rattle.pac_picture.proofs.Stale.{row-counts}
use Rattle.pac_picture.proofs.layer.differing_count.Goals as goal

pub returns-then-not-shadow-clause-count : goal.returns-then-not-shadow-clause-count
returns-then-not-shadow-clause-count c = sym (row-counts c.args.shadow.now c.args.tiles.now c.args.colours.now c.if-not-shadow.true)

pub returns-clause-count : goal.returns-clause-count
unfolding differing_cells
returns-clause-count c = c.marked.ensures.count ∙ count-same _ _ 36 c.differing.ensures
