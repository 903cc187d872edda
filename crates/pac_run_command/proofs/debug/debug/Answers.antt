use Rattle.pac_run_command.proofs.Recorded.{once-watched}

pub returns-in-Ok-clause-watches : Rattle.pac_run_command.proofs.debug.debug.Goals.returns-in-Ok-clause-watches
returns-in-Ok-clause-watches g c =
    once-watched _ _ _ _ _ _ _ _ _ _ _ c.deref.result.now c.in-Ok.commands.items c.deref.ensures.value c.in-Ok.ensures.1
    c.run_given.ensures.runs
