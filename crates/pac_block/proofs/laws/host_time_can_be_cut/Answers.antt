use Rattle.pac_block.proofs.TimeParts.{host-time-cut}

pub returns : Rattle.pac_block.proofs.laws.host_time_can_be_cut.Goals.returns
returns c = host-time-cut c.time_can_be_cut.ensures
