pub returns : Rattle.pac_run_options.proofs.command.run_command.Goals.returns
returns c = rw c.run_options.ensures at c.subcommand.ensures
