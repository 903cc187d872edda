use Rattle.std.proofs.Common.{arith}
use Rattle.pac_asm.proofs.Coverage.{part_taken, length-cells}
use Rattle.pac_asm.proofs.layout.Layout.overlaps.Goals as goal

pub is_any_taken-requires : goal.is_any_taken-requires
is_any_taken-requires c = grind (arith, length-cells)

pub returns : goal.returns
returns c = grind (arith, part_taken)
