use Rattle.pac_picture.proofs.Decoded.{are-places, value-is}
use Rattle.pac_picture.proofs.graphics.tile_values.Goals as goal

pub picked-requires : goal.picked-requires
picked-requires c = are-places c.args.pair c.tile_places.result c.requires c.tile_places.ensures

pub returns : goal.returns
returns c =
    value-is c.args.bytes c.tile_places.result c.picked.result c.values.result c.args.pair c.tile_places.ensures c.picked.ensures
    c.values.ensures
