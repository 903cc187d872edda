pub returns : Rattle.pac_run_options.proofs.command.dis_command.Goals.returns
returns c = c.subcommand.ensures
