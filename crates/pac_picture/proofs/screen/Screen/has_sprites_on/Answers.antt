use Rattle.pac_picture.proofs.Alike.{alike-where}

pub returns : Rattle.pac_picture.proofs.screen.Screen.has_sprites_on.Goals.returns
returns c = rw (← c.self.view_is) (λ off k below some.
    alike-where c.self.inside.attributes.now c.self.inside.coordinates.now c.args.sprites.now.attributes c.args.sprites.now.coordinates
    c.sixteen-attributes.result c.sixteen-coordinates.result c.boxes_at.result c.boxes_at-2.result c.args.y k
    c.sixteen-attributes.ensures c.sixteen-coordinates.ensures c.boxes_at.ensures c.boxes_at-2.ensures (c.is_off.ensures off) below some)
