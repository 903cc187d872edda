use Rattle.pac_exec.proofs.RefreshLeft.{effect-moved}

pub returns : Rattle.pac_exec.proofs.laws.refresh_is_left.Goals.returns
returns c with instruction regs read input r left = effect-moved instruction r regs read with input left
