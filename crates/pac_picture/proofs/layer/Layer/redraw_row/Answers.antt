use Rattle.std.proofs.Common.{◌<◌}
use Rattle.pac_picture.proofs.layer.Layer.redraw_row.Goals as goal

pub refresh_cells-requires : goal.refresh_cells-requires
refresh_cells-requires c =
    let below : c.self.inside.row < 28 = rw c.if-self-row.false c.requires in
    record { drawn = rw c.if-self-row.false at (c.self.invariant.drawn below) }
