use Rattle.pac_cpu.proofs.RestOnReads.{cpu-step-by-reads}

pub returns : Rattle.pac_cpu.proofs.laws.cpu_step_rests_on_reads.Goals.returns
returns c = cpu-step-by-reads
