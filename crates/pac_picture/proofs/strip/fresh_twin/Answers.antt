use Rattle.pac_picture.proofs.Strips.{twin-is}

pub returns : Rattle.pac_picture.proofs.strip.fresh_twin.Goals.returns
returns c =
    twin-is c.args.graphics.now c.args.tiles.now c.args.colours.now c.args.place c.pattern-first.result c.second_cell-second.result
    c.side_by_side.result c.pattern-first.ensures c.second_cell-second.ensures c.side_by_side.ensures
