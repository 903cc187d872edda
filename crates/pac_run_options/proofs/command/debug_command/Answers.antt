pub returns : Rattle.pac_run_options.proofs.command.debug_command.Goals.returns
returns c = rw c.run_options.ensures at c.subcommand.ensures
