use Rattle.pac_picture.proofs.Common.{[], arith, length, palette_of, rules, set-one-more, tabulate-is, ◌<◌, ◌≡◌}
use Rattle.pac_picture.proofs.picture.palette.Goals as goal

pub loop-number-preserved : goal.loop-number-preserved
loop-number-preserved c =
    let inside : c.loop-number.number < length c.loop-number.palette = omega (arith, c.loop-number.invariant.long) in
    record {
      long = search rules;
      filled = set-one-more c.loop-number.palette _ _ _ [] inside c.rgb.ensures c.loop-number.invariant.filled;
    }

pub returns : goal.returns
unfolding palette_of
returns c =
    let all : c.loop-number.number ≡ 16 = omega arith in
    tabulate-is c.loop-number.palette 16 _ [] c.loop-number.invariant.long (rw all at c.loop-number.invariant.filled)
