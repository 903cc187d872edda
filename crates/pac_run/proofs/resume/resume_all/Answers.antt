use Rattle.pac_run.proofs.Common.{refl, rules}
use Rattle.pac_run.proofs.Answered.{save-refused, unsaved}
use Rattle.pac_run.proofs.resume.resume_all.Goals as goal
use Rattle.std.proofs.Common.{arith}
use Rattle.std.proofs.lemmas.Bool.Decides.{nat_tests}

pub returns-in-Err : goal.returns-in-Err
returns-in-Err g c = unsaved _ _ c.args.inputs.now _ c.in-Err.fault c.in-Err.ensures refl

pub returns-in-Ok-put_state : goal.returns-in-Ok-put_state
returns-in-Ok-put_state g c = search rules

pub returns : goal.returns
returns g c = grind (arith, nat_tests, save-refused)
