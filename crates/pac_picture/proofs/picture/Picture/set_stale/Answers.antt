use Rattle.pac_picture.proofs.Common.{LayerState, ap}
use Rattle.pac_picture.proofs.Stale.{made-are-stale}
use Rattle.pac_picture.proofs.CleanLines.{stale-clean}
use Rattle.pac_picture.proofs.picture.Picture.set_stale.Goals as goal

pub returns-clause-stale : goal.returns-clause-stale
returns-clause-stale c =
    made-are-stale c.self.inside.layer.shadows _ (ap (λ (layer : LayerState). layer.shadows) c.set_stale.ensures.layer)
    c.set_stale.ensures.high

pub invariant_of-self : goal.invariant_of-self
invariant_of-self c = record {
  colours = c.self.invariant.colours;
  clean = rw c.set_stale.ensures.layer (stale-clean c.self.inside.clean.lines c.self.inside.clean.flip c.self.inside.clean.sprites
      c.self.inside.layer.roms c.self.inside.layer.shadows c.self.inside.lines c.self.invariant.clean c.set_stale.ensures.high);
}
