use Rattle.pac_asm.proofs.LeftOut.{skipped-lines-do-nothing}

pub returns : Rattle.pac_asm.proofs.laws.skipped_lines_do_nothing.Goals.returns
returns c = skipped-lines-do-nothing
