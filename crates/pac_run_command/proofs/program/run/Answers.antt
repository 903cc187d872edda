use Rattle.std.proofs.Common.{inl, map, string_bytes}

pub returns-in-Ok-clause-runs : Rattle.pac_run_command.proofs.program.run.Goals.returns-in-Ok-clause-runs
returns-in-Ok-clause-runs g c = inl (record { words = map string_bytes c.deref.result.now; hears = c.run_heard.ensures.hears })
