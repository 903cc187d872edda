use Rattle.pac_picture.proofs.Common.{LayerState, ap}
use Rattle.pac_picture.proofs.Stale.{made-are-stale}

pub returns-clause-stale : Rattle.pac_picture.proofs.picture.Picture.unpack.Goals.returns-clause-stale
returns-clause-stale c =
    made-are-stale c.self.inside.layer.shadows _ (ap (λ (layer : LayerState). layer.shadows) c.set_stale.ensures.layer)
    c.set_stale.ensures.high
