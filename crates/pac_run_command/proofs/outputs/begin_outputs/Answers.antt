use Rattle.std.proofs.Common.{inr, refl}
use Rattle.pac_run_command.proofs.outputs.begin_outputs.Goals as goal

pub returns-in-Ok : goal.returns-in-Ok
returns-in-Ok g c = (_, c.in-Some.ensures, (_, c.in-Some-begin.ensures, c.in-Ok.ensures.begun))

-- wave and frames are let go, the last one first
pub returns-in-Err : goal.returns-in-Err
returns-in-Err g c =
    let wave = inr (_, _, c.in-Some-begin.ensures, _, c.in-Err.ensures.unbegun, c.let_go-in-Err.ensures) in
    (refl, inr (_, _, c.in-Some.ensures, _, wave, c.let_go-in-Err-2.ensures))
