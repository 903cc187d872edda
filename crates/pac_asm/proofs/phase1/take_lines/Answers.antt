use Rattle.pac_asm.proofs.Common.{arith, err_from_is_err_and, rules}
use Rattle.pac_asm.proofs.Laying.{onward, ends, finished}
use Rattle.pac_asm.proofs.phase1.take_lines.Goals as goal

pub loop-line-init : goal.loop-line-init
loop-line-init c = search rules

pub returns-in_err-take_line : goal.returns-in_err-take_line
returns-in_err-take_line c = grind (arith, ends, err_from_is_err_and)

pub loop-line-preserved : goal.loop-line-preserved
loop-line-preserved c = grind (arith, onward)

pub returns : goal.returns
returns c = grind (arith, finished)
