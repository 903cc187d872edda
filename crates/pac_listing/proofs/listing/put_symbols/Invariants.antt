use Rattle.pac_listing.proofs.Common.{Leaves, drop, flat_map, symbol_row, symbol_rows}

abbrev pub invariant-loop-place : Rattle.pac_listing.proofs.listing.put_symbols.Given.invariant-loop-place
invariant-loop-place g l =
    Leaves g.W.Out.took l.fn.pending l.fn.file (symbol_rows l.fn.symbols) (flat_map symbol_row (drop l.place l.fn.symbols)) l.pending l.file
