use Rattle.pac_expr.proofs.Complete.{tree-of-spelling}

pub returns : Rattle.pac_expr.proofs.trees_are_spelled.Goals.returns
returns c = tree-of-spelling
