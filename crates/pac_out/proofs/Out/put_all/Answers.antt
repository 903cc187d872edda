use Rattle.std.proofs.lemmas.Bool.Decides.{nat_tests}
use Rattle.pac_out.proofs.Common.{arith, length-drop, take-add, take_rest}

pub loop-count-preserved : Rattle.pac_out.proofs.Out.put_all.Goals.loop-count-preserved
loop-count-preserved g c =
    grind (arith, nat_tests, length-drop, take-add, take_rest, c.in-Ok.ensures.bound, c.loop-count.invariant.1, c.in-Ok.ensures.taken)
