use Rattle.pac_asm.proofs.Assigned.{at-most-one-is-right}

pub returns : Rattle.pac_asm.proofs.laws.at_most_one_is_right.Goals.returns
returns c = at-most-one-is-right
