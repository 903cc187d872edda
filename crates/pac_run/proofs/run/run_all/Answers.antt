use Rattle.pac_run.proofs.Answered.{failed}
use Rattle.pac_run.proofs.run.run_all.Goals as goal

pub returns-in-Ok : goal.returns-in-Ok
returns-in-Ok g c = let runs = c.in-Ok.ensures in record { plan = runs.plan; plan_is = runs.plan_is; holds = runs.holds.holds.files }

pub returns-in-Err : goal.returns-in-Err
returns-in-Err g c = failed _ c.args.inputs.now c.in-Err.fault c.in-Err.ensures
