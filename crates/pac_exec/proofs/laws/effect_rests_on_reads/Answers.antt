use Rattle.pac_exec.proofs.RestOnReads.{effect-by-reads}

pub returns : Rattle.pac_exec.proofs.laws.effect_rests_on_reads.Goals.returns
returns c instruction regs read other input agree = effect-by-reads instruction regs read other _ input agree
