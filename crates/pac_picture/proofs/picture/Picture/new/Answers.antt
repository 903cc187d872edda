use Rattle.pac_picture.proofs.Common.{LayerState, ap, palette_of}
use Rattle.pac_picture.proofs.Places.{length-is}
use Rattle.pac_picture.proofs.Stale.{new-stale}
use Rattle.pac_picture.proofs.CleanLines.{none-clean}
use Rattle.pac_picture.proofs.picture.Picture.new.Goals as goal

pub invariant_of-result : goal.invariant_of-result
unfolding palette_of
invariant_of-result c = record {
  colours = length-is c.palette.result 16 _ c.palette.ensures;
  clean = none-clean c.none.result.lines c.none.result.flip c.none.result.sprites
      c.new.result.roms c.new.result.shadows c.new-2.result c.none.ensures;
}

pub returns-clause-stale : goal.returns-clause-stale
returns-clause-stale c = new-stale c.new.result.shadows (ap (λ (layer : LayerState). layer.shadows) c.new.ensures)
