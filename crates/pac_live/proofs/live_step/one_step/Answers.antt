-- The buffer has the step's samples, since there is room for them.
use Rattle.pac_live.proofs.Common.{are-written, arith}
use Rattle.pac_live.proofs.LiveSteps.{few-of-one, once-stop, step-done}
use Rattle.pac_live.proofs.live_step.one_step.Goals as goal

pub overflow_cast-sounds : goal.overflow_cast-sounds
overflow_cast-sounds c = grind (arith, are-written, few-of-one)

pub returns-in-Ok : goal.returns-in-Ok
returns-in-Ok c = grind (arith, are-written, few-of-one, once-stop)

pub returns-in-Err : goal.returns-in-Err
returns-in-Err c =
    step-done c.in-Err.field-0 c.args.board.now _ c.step_on.new.self c.step_on.new.sink (omega arith) (omega arith) c.requires.early
    c.requires.room c.in-Err.ensures
