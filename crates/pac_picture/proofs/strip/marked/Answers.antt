use Rattle.std.proofs.Common.{arith, rules}
use Rattle.pac_picture.proofs.Counts.{count-none, count-step, one-at-most}
use Rattle.pac_picture.proofs.strip.marked.Goals as goal

pub loop-column-init : goal.loop-column-init
loop-column-init c = record { below = search rules; counted = count-none _ }

pub loop-column-preserved : goal.loop-column-preserved
loop-column-preserved c =
    let at_most = one-at-most _ _ c.one-count.ensures in
    record {
      below = omega (arith, at_most, c.loop-column.invariant.below);
      counted = count-step _ _ _ _ c.loop-column.invariant.counted c.one-count.ensures;
    }
