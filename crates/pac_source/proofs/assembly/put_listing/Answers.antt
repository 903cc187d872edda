-- There is room for all of it.
use Rattle.pac_source.proofs.Common.{listing, refl}
use Rattle.pac_source.proofs.Writing.{filled-head}

pub returns : Rattle.pac_source.proofs.assembly.put_listing.Goals.returns
returns c =
    filled-head (listing c.args.program.now c.args.source.now) c.write_to.result _ c.write_to.new.writer _ refl c.requires
    c.write_to.ensures assumption
