use Rattle.pac_cpu.proofs.CpuSteps.{cpu-step-alike}

pub returns : Rattle.pac_cpu.proofs.laws.cpu_step_rests_on_answers.Goals.returns
returns c = cpu-step-alike
