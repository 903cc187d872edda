use Rattle.pac_expr.proofs.Common.{arith, tree_in}
use Rattle.pac_expr.proofs.Complete.{value-found, value-only}
use Rattle.pac_expr.proofs.Undefined.{undefined-told}
use Rattle.pac_expr.proofs.reading.value.Goals as goal

pub returns-clause-found : goal.returns-clause-found
unfolding tree_in
returns-clause-found g c = grind (arith, value-found)

pub returns-clause-only : goal.returns-clause-only
unfolding tree_in
returns-clause-only g c =
    value-only (g.S.SymbolLookup.lookup c.args.symbols.now) c.args.here c.args.expr.now c.evaluated.result c.evaluated.ensures

pub returns-clause-undefined : goal.returns-clause-undefined
returns-clause-undefined g c = undefined-told (g.S.SymbolLookup.lookup c.args.symbols.now) c.args.here _ c.evaluated.result
    c.evaluated.ensures
