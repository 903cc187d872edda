use Rattle.pac_debug_text.proofs.Common.{arith, err_from_is_err_and, leaves-less, leaves-nothing, leaves-refused}
use Rattle.pac_debug_text.proofs.PeekLemmas.{rows-more, rows-none}
use Rattle.pac_debug_text.proofs.peek.gather_rows.Goals as goal

pub returns-in_err-gather_row : goal.returns-in_err-gather_row
returns-in_err-gather_row g c =
    let left = rw (rows-more (g.P.Peek.byte_at c.args.memory.now) c.loop-left.next c.loop-left.left _ (omega (arith, c.loop-left-test.true))
    c.min-shown.ensures) at c.loop-left.invariant in
    let p = err_from_is_err_and c.from_residual.result c.from_residual.ensures.1 in
    rw (p.1, p.2) (leaves-refused _ _ left c.in_err-gather_row.ensures)

pub loop-left-preserved : goal.loop-left-preserved
loop-left-preserved g c =
    let left = rw (rows-more (g.P.Peek.byte_at c.args.memory.now) c.loop-left.next c.loop-left.left _ (omega (arith, c.loop-left-test.true))
    c.min-shown.ensures) at c.loop-left.invariant in
    rw c.offset-next.ensures (leaves-less _ _ left c.in_ok-gather_row.ensures)

pub returns : goal.returns
returns g c =
    leaves-nothing (rw (rows-none (g.P.Peek.byte_at c.args.memory.now) c.loop-left.next c.loop-left.left
    (omega (arith, c.loop-left-test.false))) at c.loop-left.invariant)
