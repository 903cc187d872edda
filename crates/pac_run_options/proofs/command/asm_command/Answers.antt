pub returns : Rattle.pac_run_options.proofs.command.asm_command.Goals.returns
returns c = c.subcommand.ensures
