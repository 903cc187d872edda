use Rattle.pac_run.proofs.Common.{arith, err_from_is_err_and}
use Rattle.pac_run.proofs.Answered.{unbegun}
use Rattle.pac_run.proofs.Resumed.{held-back-early, ran-to}
use Rattle.pac_run.proofs.run.run_from.Goals as goal

pub returns-in_err-program : goal.returns-in_err-program
returns-in_err-program g c = let p = err_from_is_err_and c.from_residual.result c.from_residual.ensures.1 in grind (arith, unbegun)

pub returns-in-Err : goal.returns-in-Err
returns-in-Err g c =
    held-back-early c.args.inputs.now _ c.in_ok-program.field-0 c.in_ok-program.ensures c.begin-course.result c.begin-course.ensures _
    c.in-Err.fault c.write_all.new.player c.in-Err.ensures

pub returns : goal.returns
returns g c =
    ran-to c.args.inputs.now _ c.in_ok-program.field-0 c.in_ok-program.ensures c.begin-course.result c.begin-course.ensures _
    c.in-Ok.outcome c.write_all.new.player c.in-Ok.ensures c.into_board-board.result.value c.into_board-board.ensures
    (rw c.deref.ensures at c.boards_have_states.ensures)
