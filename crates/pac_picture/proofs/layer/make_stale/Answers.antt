use Rattle.pac_picture.proofs.Common.{arith, places, rules}
use Rattle.pac_picture.proofs.Layers.{made-step, made-rest, made-end}
use Rattle.pac_picture.proofs.layer.make_stale.Goals as goal

pub loop-shadow-preserved : goal.loop-shadow-preserved
loop-shadow-preserved c = record {
  long = search (rules, places);
  made = rw c.set_stale.ensures (made-step c.args.shadows.now c.loop-shadow.shadows c.loop-shadow.shadow-index (omega (
    arith,
    c.loop-shadow-test.true,
    c.loop-shadow.invariant.long,
  ))
      c.loop-shadow.invariant.made c.loop-shadow.invariant.rest);
  rest = made-rest c.args.shadows.now c.loop-shadow.shadows c.loop-shadow.shadow-index _ c.loop-shadow.invariant.rest;
}

pub returns : goal.returns
returns c =
    made-end c.args.shadows.now c.loop-shadow.shadows c.loop-shadow.invariant.long
    (λ k inside. c.loop-shadow.invariant.made k (omega (arith, inside, c.loop-shadow-test.false)))
