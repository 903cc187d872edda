use Rattle.std.proofs.Common.{arith, ◌≡◌}
use Rattle.pac_picture.proofs.Unpacked.{same-lines}
use Rattle.pac_picture.proofs.lines.Lines.unpack.Goals as goal

pub returns : goal.returns
returns c =
    let all : c.loop-y.y ≡ 224 = omega arith in
    let picture = c.loop-y.invariant.picture (omega (arith, all)) in
    same-lines c.loop-y.self-inside.lines c.args.packed.now c.loop-y.invariant.high picture.high (rw all at c.loop-y.invariant.done)

pub invariant_of-self : goal.invariant_of-self
invariant_of-self c =
    let all : c.loop-y.y ≡ 224 = omega arith in
    let picture = c.loop-y.invariant.picture (omega (arith, all)) in
    rw (same-lines c.loop-y.self-inside.lines c.args.packed.now c.loop-y.invariant.high picture.high
    (rw all at c.loop-y.invariant.done)) picture
