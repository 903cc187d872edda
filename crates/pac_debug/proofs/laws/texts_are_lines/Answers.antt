-- By induction over the lines.
use Rattle.pac_debug.proofs.GoingOn.{in-turn}

pub returns : Rattle.pac_debug.proofs.laws.texts_are_lines.Goals.returns
returns g c = in-turn _ _ _
