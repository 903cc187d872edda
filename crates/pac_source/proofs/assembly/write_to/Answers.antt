-- What the file leaves of the writer is what its owner has.
use Rattle.pac_listing.specs.Listing.{listing}
use Rattle.pac_source.proofs.Writing.{what-is-left}

pub returns : Rattle.pac_source.proofs.assembly.write_to.Goals.returns
returns g c =
    what-is-left g.W.Out.took g.W.Out.refused (listing c.args.program.now c.args.source.now) c.write_listing-written.result _
    c.new-file.result c.write_listing-written.new.file _ c.new-file.ensures c.write_listing-written.ensures _ c.into_writer.ensures assumption
