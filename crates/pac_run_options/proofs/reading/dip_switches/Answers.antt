use Rattle.pac_run_options.proofs.Common.{ExplainsUnsignedError, HasUnsignedDigitsIfOk, ParsesUnsigned, codes, found_of, sym}
use Rattle.pac_run_options.proofs.Bytes.{dip_read}

pub returns : Rattle.pac_run_options.proofs.reading.dip_switches.Goals.returns
returns c =
    sym (dip_read (found_of c.args.values.now) (codes "dip")
    (λ bs r. ParsesUnsigned 8 10 bs r × ExplainsUnsignedError 10 bs r × HasUnsignedDigitsIfOk bs r) _
    c.get_one.ensures.none c.get_one.ensures.value (λ u x g. g.0))
