use Rattle.pac_lex.proofs.LineLaws.{one-reading}

pub returns : Rattle.pac_lex.proofs.laws.each_line_has_one_reading.Goals.returns
returns c = one-reading
