-- By induction over the lines.
use Rattle.pac_debug.proofs.GoingOn.{comes-to}

pub returns : Rattle.pac_debug.proofs.laws.lines_go_on.Goals.returns
returns g c = comes-to _ _ _
