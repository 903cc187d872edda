use Rattle.pac_listing.proofs.Common.{Leaves, arith, err_from_is_err_and, leaves-less, leaves-nothing, leaves-refused}
use Rattle.pac_listing.proofs.RowLemmas.{lines-more, lines-none, texts-none}
use Rattle.pac_listing.proofs.listing.put_lines.Goals as goal

pub returns-in_default-first_line : goal.returns-in_default-first_line
returns-in_default-first_line g c =
    grind (arith, Leaves, leaves-nothing, texts-none)

pub returns-in_err-put_line : goal.returns-in_err-put_line
returns-in_err-put_line g c =
    let left = rw (lines-more c.loop-line.number _ _ _ _ c.in-Some.ensures.cases.0 c.in-Some-first_line.ensures.some)
    at c.loop-line.invariant.1 in
    let p = err_from_is_err_and c.from_residual.result c.from_residual.ensures.1 in
    rw (p.1, p.2) (leaves-refused _ _ left c.in_err-put_line.ensures)

pub loop-line-preserved : goal.loop-line-preserved
loop-line-preserved g c =
    let left = rw (lines-more c.loop-line.number _ _ _ _ c.in-Some.ensures.cases.0 c.in-Some-first_line.ensures.some)
    at c.loop-line.invariant.1 in
    (omega (arith, c.loop-line.invariant.0, c.in-Some.ensures.cases.1), leaves-less _ _ left c.in_ok-put_line.ensures)

pub returns : goal.returns
returns g c = grind (arith, Leaves, leaves-nothing, lines-none)
