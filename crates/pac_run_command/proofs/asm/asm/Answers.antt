pub returns-in-Ok : Rattle.pac_run_command.proofs.asm.asm.Goals.returns-in-Ok
returns-in-Ok g c = c.assemble_into.ensures
