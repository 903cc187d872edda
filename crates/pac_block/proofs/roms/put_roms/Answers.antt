use Rattle.pac_block.proofs.Common.{Parts, ap, ◌∙◌}

pub returns : Rattle.pac_block.proofs.roms.put_roms.Goals.returns
returns c = c.put_roms.ensures ∙ ap (λ (set : Parts). record c.args.machine.now { set = set }) c.parts.ensures.set
