use Rattle.pac_picture.proofs.Common.{LayerState, ap, palette_of}
use Rattle.pac_picture.proofs.Places.{length-is}
use Rattle.pac_picture.proofs.Stale.{made-are-stale}
use Rattle.pac_picture.proofs.CleanLines.{none-clean}
use Rattle.pac_picture.proofs.picture.Picture.put_roms.Goals as goal

pub invariant_of-self : goal.invariant_of-self
unfolding palette_of
invariant_of-self c = record {
  colours = length-is c.palette-self-inside.result 16 _ c.palette-self-inside.ensures;
  clean = none-clean c.clear.new.self.lines c.clear.new.self.flip c.clear.new.self.sprites c.put_roms.new.self.roms
      c.put_roms.new.self.shadows c.self.inside.lines c.clear.ensures.lines;
}

pub returns-clause-stale : goal.returns-clause-stale
returns-clause-stale c =
    made-are-stale c.self.inside.layer.shadows _ (ap (λ (layer : LayerState). layer.shadows) c.put_roms.ensures.layer)
    c.put_roms.ensures.high
