use Rattle.pac_asm.proofs.LeftOut.{skipped-lines-are-left-out}

pub returns : Rattle.pac_asm.proofs.laws.skipped_lines_are_left_out.Goals.returns
returns c = skipped-lines-are-left-out
