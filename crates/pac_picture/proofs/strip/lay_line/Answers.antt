use Rattle.pac_picture.proofs.Common.{[], arith, get_or, row_dot, rules, tabulate-is}
use Rattle.pac_picture.proofs.Strips.{line-more}
use Rattle.pac_picture.proofs.strip.lay_line.Goals as goal

pub loop-place-preserved : goal.loop-place-preserved
loop-place-preserved c = record {
  long = search rules;
  done = line-more (get_or c.args.lines.now c.args.y []) c.loop-place.out c.put_numbers.new.line c.loop-place.place c.loop-place-test.true
      c.put_numbers.ensures c.loop-place.invariant.done;
}

pub returns : goal.returns
returns c =
    tabulate-is c.loop-place.out 288 (λ x. row_dot c.args.lines.now x c.args.y) 0 c.loop-place.invariant.long
    (λ x across. c.loop-place.invariant.done x (omega (arith, across, c.loop-place-test.false)))
