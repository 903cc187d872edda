use Rattle.pac_run.proofs.Planned.{script-refused, unstarted}
use Rattle.pac_run.proofs.plan.begun.Goals as goal
use Rattle.std.proofs.Common.{arith}
use Rattle.std.proofs.lemmas.Bool.Decides.{nat_tests}

pub returns-in-Err-clause-refused : goal.returns-in-Err-clause-refused
returns-in-Err-clause-refused c = grind (arith, nat_tests, script-refused)

pub returns-in-Err-first_board-clause-refused : goal.returns-in-Err-first_board-clause-refused
returns-in-Err-first_board-clause-refused c = λ program one other.
    unstarted c.args.inputs.now program c.args.set.now c.in-Ok.script one other c.in-Ok.ensures _ c.in-Err-first_board.fault
    c.in-Err-first_board.ensures
