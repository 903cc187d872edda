use Rattle.pac_listing.proofs.Common.{err_from_is_err_and, gathers-both, gathers-within, lines, lines_from, listing}
use Rattle.pac_listing.proofs.Common.{symbol_rows}
use Rattle.pac_listing.proofs.listing.put_listing.Goals as goal

pub returns-in_err-put_lines : goal.returns-in_err-put_lines
unfolding listing
returns-in_err-put_lines g c =
    let p = err_from_is_err_and c.from_residual.result c.from_residual.ensures.1 in
    rw (p.1, p.2)
    (gathers-within g.W.Out.refused c.args.pending.now (lines_from 1 c.args.program.now.lines (lines c.args.source.now))
    (symbol_rows c.args.program.now.symbols) (rw (← c.lines.ensures) c.in_err-put_lines.ensures))

pub returns : goal.returns
unfolding listing
returns g c =
    let source = lines c.args.source.now in
    rw (← c.lines.ensures, ← c.symbols.ensures)
    (gathers-both g.W.Out.refused c.args.pending.now (lines_from 1 c.lines.result.now source) (symbol_rows c.symbols.result.now)
    c.put_symbols.result c.put_symbols.new.pending c.put_symbols.new.file c.in_ok-put_lines.ensures c.put_symbols.ensures)
