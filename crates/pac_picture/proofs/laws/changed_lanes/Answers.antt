use Rattle.pac_picture.proofs.Common.{places, rules}
use Rattle.pac_picture.proofs.Masks.{lanes-step}

pub loop-vector-preserved : Rattle.pac_picture.proofs.laws.changed_lanes.Goals.loop-vector-preserved
loop-vector-preserved c = record {
  long = search (rules, places);
  within = lanes-step c.args.now.now c.args.shadow.now c.loop-vector.mask c.spread.new.mask c.loop-vector.vector c.sixteen-bits.result
      c.sixteen-bits.ensures c.spread.ensures.within c.spread.ensures.before c.loop-vector.invariant.within;
}
