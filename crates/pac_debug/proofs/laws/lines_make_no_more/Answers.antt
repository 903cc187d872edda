-- By induction over the lines.
use Rattle.pac_debug.proofs.StepsMade.{lines-make-no-more}

pub returns : Rattle.pac_debug.proofs.laws.lines_make_no_more.Goals.returns
returns g c = lines-make-no-more _ _ _
