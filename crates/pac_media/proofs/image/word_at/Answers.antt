use Rattle.std.proofs.lemmas.Bool.Decides.{nat_tests}
use Rattle.std.proofs.Common.{arith}

pub returns : Rattle.pac_media.proofs.image.word_at.Goals.returns
returns c = grind (arith, nat_tests, c.word.ensures)
