use Rattle.pac_picture.proofs.Strips.{twin-again}

pub returns-then-are_like_left : Rattle.pac_picture.proofs.strip.next_twin.Goals.returns-then-are_like_left
returns-then-are_like_left c =
    let is = c.if-are_like_left.true in
    let some = c.are_like_left.ensures.place is in
    twin-again c.args.graphics.now c.args.tiles.now c.args.colours.now c.args.place c.args.last some
    (c.are_like_left.ensures.tiles is) (c.are_like_left.ensures.colours is) (c.requires.last some)
