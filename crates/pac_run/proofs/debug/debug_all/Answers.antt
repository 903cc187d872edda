use Rattle.pac_run.proofs.Common.{Watching, ap, arith, err_from_is_err_and}
use Rattle.pac_run.proofs.Carried.{debugs}
use Rattle.pac_run.proofs.Debugged.{debugged, ready-session, refused-all}
use Rattle.pac_run.proofs.Lent.{carries-back, itself}
use Rattle.pac_run.proofs.debug.debug_all.Goals as goal

pub returns-in_err-program : goal.returns-in_err-program
returns-in_err-program g c = grind (arith, err_from_is_err_and, refused-all)

pub returns : goal.returns
returns g c =
    let ready = ready-session c.args.inputs.now c.in_ok-program.field-0 c.in_ok-session.field-0 c.in_ok-program.ensures
    c.in_ok-session.ensures.begun in
    debugs _ _ (itself _) (itself _) (itself _) (itself _) _ _ (carries-back g.T.Out.took g.T.Out.refused _
    c.write_all-written.new.player.text _ _ c.into_text.ensures (assumption)) c.args.inputs.now c.args.commands.now
    c.write_all-written.result (debugged c.args.inputs.now c.args.commands.now _ _ c.in_ok-program.field-0.program c.in_ok-session.field-0
    ready _ (λ same. ap (λ (it : Watching _). it.text) same) c.write_all-written.result c.write_all-written.ensures)
