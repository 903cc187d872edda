use Rattle.pac_run.proofs.Planned.{prepared}
use Rattle.pac_run.proofs.plan.prepare.Goals as goal

pub returns-in-Err : goal.returns-in-Err
returns-in-Err c = c.in-Err.ensures.refused _

pub returns-in-Err-begun : goal.returns-in-Err-begun
returns-in-Err-begun c = c.in-Err-begun.ensures.refused _ c.in-Ok.ensures.program c.in-Ok.ensures.set

pub returns-in-Ok-begun : goal.returns-in-Ok-begun
returns-in-Ok-begun c =
    prepared c.args.inputs.now c.in-Ok.program c.program_and_set.new.set c.in-Ok-begun.script
    c.in-Ok.ensures.program c.in-Ok.ensures.set c.in-Ok-begun.ensures.script _ c.in-Ok-begun.board c.in-Ok-begun.image
    c.in-Ok.ensures.whole c.in-Ok.ensures.lie c.in-Ok-begun.ensures.board
