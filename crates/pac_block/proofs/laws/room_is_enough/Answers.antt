use Rattle.pac_block.proofs.TimeParts.{room-is-enough}

pub returns : Rattle.pac_block.proofs.laws.room_is_enough.Goals.returns
returns c = room-is-enough
