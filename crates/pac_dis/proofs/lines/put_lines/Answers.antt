use Rattle.pac_dis.proofs.Common.{Leaves, arith, eqb-false, eqb-true, err_from_is_err_and, leaves-less, leaves-nothing}
use Rattle.pac_dis.proofs.Common.{leaves-refused, length, sym, ◌<◌}
use Rattle.pac_dis.proofs.LineLemmas.{lines-more, lines-rest, lines-none}
use Rattle.pac_dis.proofs.lines.put_lines.Goals as goal

pub returns-in_err-size : goal.returns-in_err-size
returns-in_err-size g c =
    let rest = c.loop-rest.rest.now in
    let at = c.loop-rest.at in
    let some : 0 < length rest = omega (arith, eqb-false (length rest) 0 (sym c.loop-rest-test.ensures)) in
    let left = rw (lines-more at rest some) at c.loop-rest.invariant.1 in
    let p = err_from_is_err_and c.from_residual.result c.from_residual.ensures.1 in
    rw (p.1, p.2) (leaves-refused _ _ left c.in_err-size.ensures.line)

pub loop-rest-preserved : goal.loop-rest-preserved
loop-rest-preserved g c = grind (arith, Leaves, eqb-false, leaves-less, lines-more, lines-rest)

pub returns : goal.returns
returns g c = grind (arith, Leaves, eqb-true, leaves-nothing, lines-none)
