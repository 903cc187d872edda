-- By induction over the lines.
use Rattle.pac_debug.proofs.StepsMade.{sessions-make-no-more}

pub returns : Rattle.pac_debug.proofs.laws.sessions_make_no_more.Goals.returns
returns g c = sessions-make-no-more _ _ _
