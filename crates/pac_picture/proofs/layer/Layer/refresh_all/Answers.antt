use Rattle.pac_picture.proofs.Common.{all_differing, arith, length, length-set, refl, rules, ◌<◌, ◌∙◌, ◌≡◌}
use Rattle.pac_picture.proofs.Layers.{row-step, made-rest, sum-none, sum-step, drawn-all, layer-is}
use Rattle.pac_picture.proofs.layer.Layer.refresh_all.Goals as goal

pub loop-row-init : goal.loop-row-init
loop-row-init c = record {
  high = λ some. absurd (omega (arith, some));
  roms = refl;
  done = λ k below. absurd (omega (arith, below));
  rest = λ k past. refl;
  counted = sum-none _;
  below = search rules;
}

pub loop-row-preserved : goal.loop-row-preserved
loop-row-preserved c =
    let inside : c.loop-row.row < length c.loop-row.self.shadows = omega (arith, c.refresh-drawn.ensures.high, c.loop-row-test.true) in
    record {
      high = λ some. rw c.refresh-drawn.ensures.layer (length-set c.loop-row.self.shadows _ _ ∙ c.refresh-drawn.ensures.high);
      roms = rw c.refresh-drawn.ensures.layer c.loop-row.invariant.roms;
      done = rw c.refresh-drawn.ensures.layer
          (row-step c.args.screen.now c.loop-row.self.shadows c.loop-row.row inside c.loop-row.invariant.done);
      rest = rw c.refresh-drawn.ensures.layer
          (made-rest c.args.self.now.shadows c.loop-row.self.shadows c.loop-row.row _ c.loop-row.invariant.rest);
      counted = sum-step c.args.self.now.shadows c.loop-row.self.shadows c.args.screen.now c.loop-row.row _ _
          c.loop-row.invariant.counted c.refresh-drawn.ensures.count (c.loop-row.invariant.rest c.loop-row.row (omega arith));
      below = omega (arith, c.loop-row.invariant.below, c.refresh-drawn.ensures.bound);
    }

pub returns : goal.returns
unfolding all_differing
returns c =
    let all : c.loop-row.row ≡ 28 = omega arith in
    let some : 0 < c.loop-row.row = omega (arith, all) in
    let drawn = drawn-all c.args.screen.now c.loop-row.self.shadows (c.loop-row.invariant.high some)
    (rw all at c.loop-row.invariant.done) in
    record {
      layer = layer-is c.loop-row.self _ _ c.loop-row.invariant.roms drawn;
      count = rw all at c.loop-row.invariant.counted;
    }
