use Rattle.pac_cpu.proofs.CpuSteps.{cpu-step-in-time}

pub returns : Rattle.pac_cpu.proofs.laws.each_cpu_step_is_in_time.Goals.returns
returns c = cpu-step-in-time
