-- Nothing is given before the first index.
use Rattle.std.proofs.Common.{refl}

pub returns : Rattle.pac_debug_session.proofs.laws.all_is_given.Goals.returns
returns c setting = refl
