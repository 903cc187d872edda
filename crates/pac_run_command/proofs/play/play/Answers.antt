use Rattle.pac_run_command.proofs.Recorded.{once-played}

pub returns-in-Ok-clause-plays : Rattle.pac_run_command.proofs.play.play.Goals.returns-in-Ok-clause-plays
returns-in-Ok-clause-plays g c =
    once-played _ _ _ _ _ _ _ _ _ _ c.bytes_in.result c.in-Ok.state c.bytes_in.ensures c.in-Ok.ensures.1 c.run_given.ensures.runs
