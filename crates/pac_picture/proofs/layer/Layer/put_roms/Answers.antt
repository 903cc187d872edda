use Rattle.pac_picture.proofs.Stale.{made-are-stale, undrawn-layer}

pub invariant_of-self : Rattle.pac_picture.proofs.layer.Layer.put_roms.Goals.invariant_of-self
invariant_of-self c =
    undrawn-layer c.put.new.self c.make_stale.new.shadows c.self.inside.row c.self.inside.kept
    (made-are-stale c.self.inside.shadows c.make_stale.new.shadows c.make_stale.ensures c.self.invariant.shadows_high)
