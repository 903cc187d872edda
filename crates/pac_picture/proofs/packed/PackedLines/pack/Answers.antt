use Rattle.std.proofs.Common.{arith, ◌≡◌}
use Rattle.pac_picture.proofs.Unpacked.{unpacked-is}
use Rattle.pac_picture.proofs.packed.PackedLines.pack.Goals as goal

pub returns : goal.returns
returns c =
    let all : c.loop-y.y ≡ 112 = omega arith in
    unpacked-is c.loop-y.self-inside.pairs c.args.lines.now c.raw-lines.ensures.picture
    (rw (all, c.raw-lines.ensures.lines) at c.loop-y.invariant.packed)

pub invariant_of-self : goal.invariant_of-self
invariant_of-self c = rw (returns c) c.raw-lines.ensures.picture
