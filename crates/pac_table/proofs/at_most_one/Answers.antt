use Rattle.pac_table.proofs.Uniqueness.{one-row}

pub returns : Rattle.pac_table.proofs.at_most_one.Goals.returns
returns c = one-row
