use Rattle.pac_run_command.proofs.Common.{listing, written}

pub returns : Rattle.pac_run_command.proofs.asm.put_listing.Goals.returns
returns g c =
    written g.L.Out.took g.L.Out.refused _ _ c.write_listing-written.result (listing c.args.program.now c.args.source.now) c.new-file.result
    c.write_listing-written.new.file c.new-file.ensures c.write_listing-written.ensures _ c.into_writer.ensures assumption
