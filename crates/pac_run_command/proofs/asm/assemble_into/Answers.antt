use Rattle.std.proofs.Common.{inl}

pub returns : Rattle.pac_run_command.proofs.asm.assemble_into.Goals.returns
returns g c = inl (record {
  source = c.args.source.now;
  source_is = c.requires;
  created = c.in-Ok.outputs;
  during = c.create_pair.new.disk;
  all_begun = c.in-Ok.ensures;
  left = record { rom = c.write_program-done.new.rom; listing = c.write_program-done.new.listing };
  assembled = c.write_program-done.ensures;
  all_closed = c.close_pair.ensures;
})
