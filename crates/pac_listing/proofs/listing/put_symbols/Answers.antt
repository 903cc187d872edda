use Rattle.pac_listing.proofs.Common.{SFits, codes, err_from_is_err_and, flat_map, gathers-within, leaves-less, leaves-refused, rules}
use Rattle.pac_listing.proofs.Common.{symbol_row, to_z-of_z, w32}
use Rattle.pac_listing.proofs.RowLemmas.{symbols-more}
use Rattle.pac_listing.proofs.listing.put_symbols.Goals as goal

pub returns-in_err-put : goal.returns-in_err-put
returns-in_err-put g c =
    let p = err_from_is_err_and c.from_residual.result c.from_residual.ensures.1 in
    rw (p.1, p.2) (gathers-within g.W.Out.refused c.args.pending.now (codes "SYMBOLS\n") (flat_map symbol_row c.args.symbols.now)
    c.in_err-put.ensures)

pub returns-in_err-put_symbol : goal.returns-in_err-put_symbol
returns-in_err-put_symbol g c =
    let fits : SFits w32 c.in-Some.number = search rules in
    let left = rw (symbols-more c.args.symbols.now c.loop-place.place c.in-Some.name.now _ c.in-Some.ensures
    (to_z-of_z w32 c.in-Some.number fits)) at c.loop-place.invariant in
    let p = err_from_is_err_and c.from_residual-in_err-put_symbol.result c.from_residual-in_err-put_symbol.ensures.1 in
    rw (p.1, p.2) (leaves-refused _ _ left c.in_err-put_symbol.ensures)

pub loop-place-preserved : goal.loop-place-preserved
loop-place-preserved g c =
    let fits : SFits w32 c.in-Some.number = search rules in
    leaves-less _ _ (rw (symbols-more c.args.symbols.now c.loop-place.place c.in-Some.name.now _ c.in-Some.ensures
    (to_z-of_z w32 c.in-Some.number fits)) at c.loop-place.invariant) c.in_ok-put_symbol.ensures
