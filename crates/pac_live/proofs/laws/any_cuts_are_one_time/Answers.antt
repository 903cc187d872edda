use Rattle.pac_live.proofs.Cuts.{any-cuts-are-one-time}

pub returns : Rattle.pac_live.proofs.laws.any_cuts_are_one_time.Goals.returns
returns c = any-cuts-are-one-time c.time_can_be_cut.ensures
