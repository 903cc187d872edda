use Rattle.pac_picture.proofs.Stale.{stale-cells-are-drawn}

pub returns : Rattle.pac_picture.proofs.laws.stale_cells_are_drawn.Goals.returns
returns c = stale-cells-are-drawn
