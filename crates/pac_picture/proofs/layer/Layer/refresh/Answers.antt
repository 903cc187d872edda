use Rattle.pac_picture.proofs.Counts.{none-differ}

pub returns-then-is_drawn_in-clause-count : Rattle.pac_picture.proofs.layer.Layer.refresh.Goals.returns-then-is_drawn_in-clause-count
returns-then-is_drawn_in-clause-count c =
    rw (← c.self.view_is) (none-differ _ _ _ (c.is_drawn_in.ensures c.if-is_drawn_in.true))
