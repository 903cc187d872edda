use Rattle.pac_picture.proofs.Common.{false, get_or-replicate-all}

pub returns-clause-lines : Rattle.pac_picture.proofs.clean.Clean.clear.Goals.returns-clause-lines
returns-clause-lines c = λ line. get_or-replicate-all 224 line false
