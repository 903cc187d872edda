use Rattle.pac_lex.proofs.LineLaws.{texts-again}

pub returns : Rattle.pac_lex.proofs.laws.texts_have_their_characters.Goals.returns
returns c = texts-again
