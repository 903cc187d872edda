use Rattle.std.proofs.Common.{rules, ◌++◌, [], ◌∷◌}
use Rattle.pac_listing.proofs.Places.{items_from, all-items}

pub returns : Rattle.pac_listing.proofs.rows.row_head.Goals.returns
unfolding items_from
returns c =
    let digits = all-items 5 c.args.digits (search rules) in
    let address = all-items 4 c.args.address (search rules) in
    let columns = all-items 8 c.args.columns (search rules) in
    λ i. digits i ++ 32 ∷ (address i ++ 32 ∷ (columns i ++ 32 ∷ []))
