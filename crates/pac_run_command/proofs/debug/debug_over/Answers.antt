use Rattle.pac_run_command.proofs.Common.{carries, refl}
use Rattle.pac_run_command.proofs.Performed.{watched}

pub returns : Rattle.pac_run_command.proofs.debug.debug_over.Goals.returns
returns g c = (
  watched _ _
      (carries g.F.Out.took g.F.Out.refused _ _ _ (assumption)) (carries g.F.Out.took g.F.Out.refused _ _ _ (assumption))
      (carries g.F.Out.took g.F.Out.refused _ _ _ (assumption)) (carries g.R.Out.took g.R.Out.refused _ _ _ (assumption)) _
      c.args.inputs.now c.args.commands.now c.debug_inputs.result c.debug_inputs.ensures,
  refl,
)
