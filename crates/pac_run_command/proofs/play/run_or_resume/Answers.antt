use Rattle.std.proofs.Common.{refl}
use Rattle.pac_run_command.proofs.Performed.{resumed, started}
use Rattle.pac_run_command.proofs.play.run_or_resume.Goals as goal

pub returns-then-not-names_state : goal.returns-then-not-names_state
returns-then-not-names_state g c =
    started _ _ c.args.inputs.now c.args.from c.args.state.now c.run_all.result c.if-not-names_state.ensures c.run_all.ensures refl

pub returns : goal.returns
returns g c =
    resumed _ _ c.args.inputs.now c.args.from c.args.state.now c.resume_all.result c.if-not-names_state.ensures c.resume_all.ensures
