use Rattle.pac_dis.proofs.Writings.{text-shown, text-fits}

pub returns : Rattle.pac_dis.proofs.texts_fit.Goals.returns
returns c = λ at i is. (text-shown at i is, text-fits at i is)
