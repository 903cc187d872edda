-- A step takes as long as its definition says.
use Rattle.pac_cpu.proofs.Common.{IfStepped, Once, least_ticks, most_ticks, subst, sym, ◌≤◌}
use Rattle.pac_cpu.proofs.CpuSteps.{cpu-step-in-time, once-in-time}

pub returns-clause-time : Rattle.pac_cpu.proofs.cpu.Cpu.step_apart.Goals.returns-clause-time
returns-clause-time g c =
    let P : Once → Type 0 = λ once. IfStepped once (λ ticks kind. (least_ticks ≤ ticks) × (ticks ≤ most_ticks)) in
    subst P (sym c.advance.ensures.once) (once-in-time _ (cpu-step-in-time _ _ _))
