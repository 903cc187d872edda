use Rattle.pac_listing.proofs.Common.{Leaves, arith, eqb-false, eqb-true, err_from_is_err_and, leaves-less, leaves-nothing, leaves-refused}
use Rattle.pac_listing.proofs.Common.{length, sym}
use Rattle.pac_listing.proofs.RowLemmas.{rows-more, rows-none}
use Rattle.pac_listing.proofs.rows.put_further_rows.Goals as goal

pub returns-in_err-put_further_row : goal.returns-in_err-put_further_row
returns-in_err-put_further_row g c =
    let left = rw (rows-more c.loop-rest.at c.loop-rest.rest.now
    (omega (arith, eqb-false (length c.loop-rest.rest.now) 0 (sym c.loop-rest-test.ensures)))) at c.loop-rest.invariant in
    let p = err_from_is_err_and c.from_residual.result c.from_residual.ensures.1 in
    rw (p.1, p.2) (leaves-refused _ _ left c.in_err-put_further_row.ensures)

pub loop-rest-preserved : goal.loop-rest-preserved
loop-rest-preserved g c =
    let left = rw (rows-more c.loop-rest.at c.loop-rest.rest.now
    (omega (arith, eqb-false (length c.loop-rest.rest.now) 0 (sym c.loop-rest-test.ensures)))) at c.loop-rest.invariant in
    rw c.after_row-rest.ensures.bytes (leaves-less _ _ left c.in_ok-put_further_row.ensures)

pub returns : goal.returns
returns g c = grind (arith, Leaves, eqb-true, leaves-nothing, rows-none)
