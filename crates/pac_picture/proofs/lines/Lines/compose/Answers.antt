use Rattle.std.proofs.Common.{arith, length, length-set, ◌<◌, ◌∙◌, ◌≡◌}
use Rattle.pac_picture.proofs.Layers.{all-at}
use Rattle.pac_picture.proofs.Composed.{all-composed, composed-picture, lines-step, source-row}
use Rattle.pac_picture.proofs.lines.Lines.compose.Goals as goal

pub compose_line-requires : goal.compose_line-requires
compose_line-requires c = record {
  y = c.loop-y-test.true;
  drawn = rw c.loop-y.invariant.layer
      (all-at c.args.screen.now c.args.layer.now.shadows _ c.requires (source-row c.args.screen.now c.loop-y.y c.loop-y-test.true));
}

pub loop-y-preserved : goal.loop-y-preserved
loop-y-preserved c =
    let inside : c.loop-y.y < length c.loop-y.self-inside.lines = omega (arith, c.loop-y.invariant.high, c.loop-y-test.true) in
    record {
      layer = c.compose_line.ensures.layer ∙ c.loop-y.invariant.layer;
      high = length-set c.loop-y.self-inside.lines _ _ ∙ c.loop-y.invariant.high;
      done = lines-step c.args.layer.now.roms c.args.screen.now c.loop-y.self-inside.lines c.loop-y.y c.compose_line.new.out inside
          (rw c.loop-y.invariant.layer at c.compose_line.ensures.line) c.loop-y.invariant.done;
    }

pub returns : goal.returns
returns c =
    let all : c.loop-y.y ≡ 224 = omega arith in
    record {
      layer = c.loop-y.invariant.layer;
      lines = all-composed c.args.layer.now.roms c.args.screen.now c.loop-y.self-inside.lines c.loop-y.invariant.high
          (rw all at c.loop-y.invariant.done);
    }

pub invariant_of-self : goal.invariant_of-self
invariant_of-self c =
    let all : c.loop-y.y ≡ 224 = omega arith in
    composed-picture c.args.layer.now.roms c.args.screen.now c.loop-y.self-inside.lines c.loop-y.invariant.high
    (rw all at c.loop-y.invariant.done)
