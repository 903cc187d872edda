use Rattle.pac_run.proofs.Common.{listing_in, option_copied}
use Rattle.pac_run.proofs.Lent.{written}

pub returns : Rattle.pac_run.proofs.run.list.Goals.returns
returns g c =
    written g.L.Out.took g.L.Out.refused _ _ c.put_listing-written.result (listing_in (option_copied c.args.source) c.args.program.now)
    c.new-file.result c.put_listing-written.new.file c.new-file.ensures c.put_listing-written.ensures _ c.into_writer.ensures assumption
