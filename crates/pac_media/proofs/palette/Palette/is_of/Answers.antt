use Rattle.std.proofs.Common.{arith}
use Rattle.std.proofs.lemmas.Bool.Decides.{nat_tests}
use Rattle.pac_media.proofs.Common.{slice_eq-Decides}

pub returns : Rattle.pac_media.proofs.palette.Palette.is_of.Goals.returns
returns c = grind (arith, nat_tests, slice_eq-Decides, c.eq.ensures, c.as_slice.ensures.value)
