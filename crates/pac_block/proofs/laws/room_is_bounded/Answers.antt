use Rattle.pac_block.proofs.TimeParts.{room-is-bounded}

pub returns : Rattle.pac_block.proofs.laws.room_is_bounded.Goals.returns
returns c = room-is-bounded
