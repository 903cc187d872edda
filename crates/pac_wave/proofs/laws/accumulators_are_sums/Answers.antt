use Rattle.pac_wave.proofs.Sums.{all-sums}

pub returns : Rattle.pac_wave.proofs.laws.accumulators_are_sums.Goals.returns
returns c = all-sums
