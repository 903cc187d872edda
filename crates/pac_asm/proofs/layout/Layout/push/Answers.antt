use Rattle.pac_asm.proofs.Common.{arith}
use Rattle.pac_asm.proofs.Coverage.{with_span, with_nothing, length-cells, apart-push}
use Rattle.pac_asm.proofs.layout.Layout.push.Goals as goal

pub take_cells-requires : goal.take_cells-requires
take_cells-requires c = grind (arith, length-cells)

pub invariant_of-self-in-Placed : goal.invariant_of-self-in-Placed
invariant_of-self-in-Placed c = grind (arith, with_span, apart-push)

pub invariant_of-self-in-Blank : goal.invariant_of-self-in-Blank
invariant_of-self-in-Blank c = grind (arith, with_nothing, apart-push)

pub invariant_of-self-in-Skipped : goal.invariant_of-self-in-Skipped
invariant_of-self-in-Skipped c = grind (arith, with_nothing, apart-push)
