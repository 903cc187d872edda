use Rattle.pac_block.proofs.FramesDone.{frames-are-done}

pub returns : Rattle.pac_block.proofs.laws.frames_are_done.Goals.returns
returns c = frames-are-done
