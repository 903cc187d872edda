use Rattle.pac_sprites.proofs.Common.{arith, length, pixel_value-below, rules, set-one-more, ℕ, ◌<◌}
use Rattle.pac_sprites.proofs.Sprite.boxed_line.Goals as goal

pub loop-across-preserved : goal.loop-across-preserved
loop-across-preserved c =
    let long = c.loop-across.invariant.long in
    let inside : c.loop-across.across < length c.loop-across.values = omega (arith, long, c.loop-across-test.true) in
    record {
      long = search rules;
      filled = set-one-more _ _ _ _ 0 inside c.boxed.ensures.value c.loop-across.invariant.filled;
    }

pub returns : goal.returns
returns c =
    let all : (k : ℕ) → k < length c.loop-across.values → k < c.loop-across.across =
    λ k inside. omega (arith, c.loop-across.invariant.long, c.loop-across-test.false) in
    record {
      values = λ k inside. c.loop-across.invariant.filled k (all k inside);
      below = λ k inside. rw (c.loop-across.invariant.filled k (all k inside)) (pixel_value-below _ _);
    }
