use Rattle.pac_block.proofs.TimeParts.{stops-met-again}

pub returns : Rattle.pac_block.proofs.laws.stops_are_met_again.Goals.returns
returns c = stops-met-again
