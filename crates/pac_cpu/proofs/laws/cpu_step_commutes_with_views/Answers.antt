use Rattle.pac_cpu.proofs.Views.{cpu-step-viewed}

pub returns : Rattle.pac_cpu.proofs.laws.cpu_step_commutes_with_views.Goals.returns
returns g c view bytes inputs changes =
    cpu-step-viewed view g.From.Bus.byte_at g.From.Bus.input_at g.From.Bus.after
    g.To.Bus.byte_at g.To.Bus.input_at g.To.Bus.after bytes inputs changes
