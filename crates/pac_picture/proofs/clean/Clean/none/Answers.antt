use Rattle.pac_picture.proofs.Common.{false, get_or-replicate-all}

pub returns : Rattle.pac_picture.proofs.clean.Clean.none.Goals.returns
returns c = λ line. get_or-replicate-all 224 line false
