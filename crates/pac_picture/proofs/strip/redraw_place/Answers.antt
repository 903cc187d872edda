use Rattle.pac_picture.proofs.Common.{has_marked, sym, ◌∙◌}
use Rattle.pac_picture.proofs.Strips.{drawn-already, drawn-more}
use Rattle.pac_picture.proofs.strip.redraw_place.Goals as goal

pub returns-then-is_marked : goal.returns-then-is_marked
returns-then-is_marked c =
    drawn-more c.args.graphics.now c.args.tiles.now c.args.colours.now (has_marked c.args.mask.now) c.args.lines.now c.put_twin.new.lines
    c.args.place c.fresh_twin.result c.requires.drawn c.put_twin.ensures c.fresh_twin.ensures

pub returns-else-is_marked : goal.returns-else-is_marked
returns-else-is_marked c =
    drawn-already c.args.graphics.now c.args.tiles.now c.args.colours.now (has_marked c.args.mask.now) c.args.lines.now c.args.place
    (sym c.is_marked.ensures ∙ c.if-is_marked.false) c.requires.drawn
