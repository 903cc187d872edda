use Rattle.std.proofs.Common.{option_copied}
use Rattle.pac_run_command.proofs.Performed.{performed}
use Rattle.pac_run.proofs.Lent.{carries}

pub returns : Rattle.pac_run_command.proofs.play.run_over.Goals.returns
returns g c =
    performed _ _ (carries g.F.Out.took g.F.Out.refused _ _ _ (assumption)) (carries g.F.Out.took g.F.Out.refused _ _ _ (assumption))
    (carries g.F.Out.took g.F.Out.refused _ _ _ (assumption)) (carries g.R.Out.took g.R.Out.refused _ _ _ (assumption)) _ c.args.inputs.now
    (option_copied c.args.from) c.run_inputs.result c.run_inputs.ensures
