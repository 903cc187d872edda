use Rattle.pac_block.proofs.OneStep.{one-step-at-most}

pub returns : Rattle.pac_block.proofs.laws.one_step_at_most.Goals.returns
returns c = one-step-at-most
