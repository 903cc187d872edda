use Rattle.pac_media.proofs.Common.{arith, black-picture}

pub invariant_of-result : Rattle.pac_media.proofs.image.Image.new.Goals.invariant_of-result
invariant_of-result c = grind (arith, black-picture)
