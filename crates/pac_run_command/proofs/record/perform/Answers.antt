use Rattle.pac_run_command.proofs.record.perform.Goals as goal

pub returns-in-Played-clause-performs : goal.returns-in-Played-clause-performs
returns-in-Played-clause-performs g c = rw c.in-Played.is c.run_over.ensures

pub returns-in-Watched-clause-performs : goal.returns-in-Watched-clause-performs
returns-in-Watched-clause-performs g c = rw c.in-Watched.is c.debug_over.ensures
