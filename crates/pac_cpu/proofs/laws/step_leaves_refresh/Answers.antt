use Rattle.pac_cpu.proofs.StepRefreshed.{step-follows}

pub returns : Rattle.pac_cpu.proofs.laws.step_leaves_refresh.Goals.returns
returns c one other regs request r alike is = step-follows one other regs r alike request is
