use Rattle.pac_debug_text.proofs.Common.{arith, err_from_is_err_and, leaves-less, leaves-nothing, leaves-refused, ◌-◌}
use Rattle.pac_debug_text.proofs.PeekLemmas.{bytes-more, bytes-none}
use Rattle.pac_debug_text.proofs.peek.gather_bytes.Goals as goal

pub returns-in_err-gather_byte : goal.returns-in_err-gather_byte
returns-in_err-gather_byte g c =
    let left = rw (bytes-more (g.P.Peek.byte_at c.args.memory.now) c.loop.next c.args.count c.loop.counter _ c.loop-test.true
    c.peek.ensures) at c.loop.invariant in
    let p = err_from_is_err_and c.from_residual.result c.from_residual.ensures.1 in
    rw (p.1, p.2) (leaves-refused _ _ left c.in_err-gather_byte.ensures)

pub loop-preserved : goal.loop-preserved
loop-preserved g c =
    let left = rw (bytes-more (g.P.Peek.byte_at c.args.memory.now) c.loop.next c.args.count c.loop.counter _ c.loop-test.true
    c.peek.ensures) at c.loop.invariant in
    rw c.offset-next.ensures (leaves-less _ _ left c.in_ok-gather_byte.ensures)

pub returns : goal.returns
returns g c =
    leaves-nothing (rw (bytes-none (g.P.Peek.byte_at c.args.memory.now) c.loop.next (c.args.count - c.loop.counter)
    (omega (arith, c.loop-test.false))) at c.loop.invariant)
