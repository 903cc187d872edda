use Rattle.std.proofs.Common.{◌∙◌}
use Rattle.pac_wave.proofs.Batch.{silent}

pub returns : Rattle.pac_wave.proofs.silence.Goals.returns
returns c = λ prom registers all. c.fill.ensures.after (λ y is. is) ∙ silent prom registers all _
