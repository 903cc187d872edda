use Rattle.pac_debug_text.proofs.refusal.put_refusal.Goals as goal

pub returns-in-NoCommand : goal.returns-in-NoCommand
returns-in-NoCommand g c = rw c.in-NoCommand.is c.put.ensures.put

pub returns-in-TooFarBack : goal.returns-in-TooFarBack
returns-in-TooFarBack g c = rw c.in-TooFarBack.is c.put_too_far_back.ensures

pub returns-in-EmptySlot : goal.returns-in-EmptySlot
returns-in-EmptySlot g c = rw c.in-EmptySlot.is c.put-in-EmptySlot.ensures.put

pub returns-in-NoRoom : goal.returns-in-NoRoom
returns-in-NoRoom g c = rw c.in-NoRoom.is c.put-in-NoRoom.ensures.put
