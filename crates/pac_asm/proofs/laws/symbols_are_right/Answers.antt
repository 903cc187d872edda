use Rattle.pac_asm.proofs.Assigned.{symbols-are-right}

pub returns : Rattle.pac_asm.proofs.laws.symbols_are_right.Goals.returns
returns c = symbols-are-right
