use Rattle.std.proofs.Common.{inr}

pub returns-in_default-clause-hears : Rattle.pac_run_command.proofs.standard.run_heard.Goals.returns-in_default-clause-hears
returns-in_default-clause-hears g c = inr (record {
  disk = record { rt = c.args.rt };
  disk_left = c.work_unkept.new.disk;
  console = record { console = c.args.rt };
  console_left = c.work_unkept.new.console;
  works = c.work_unkept.ensures.works;
})
