use Rattle.std.proofs.Common.{eqb-true}
use Rattle.pac_picture.proofs.Alike.{off-bits}

pub returns : Rattle.pac_picture.proofs.screen.is_off.Goals.returns
returns c = λ none k below set. off-bits c.args.changed c.args.boxes k (eqb-true _ _ none) set
