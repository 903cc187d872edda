use Rattle.pac_debug_text.proofs.Common.{arith, err_from_is_err_and, leaves-less, leaves-nothing, leaves-refused, ◌-◌}
use Rattle.pac_debug_text.proofs.PeekLemmas.{instructions-more, instructions-none}
use Rattle.pac_debug_text.proofs.peek.gather_instructions.Goals as goal

pub returns-in_err-size : goal.returns-in_err-size
returns-in_err-size g c =
    let left = rw (instructions-more (g.P.Peek.byte_at c.args.memory.now) c.loop.next c.args.count c.loop.counter _ c.loop-test.true
    c.four_from-code.ensures) at c.loop.invariant in
    let p = err_from_is_err_and c.from_residual.result c.from_residual.ensures.1 in
    rw (p.1, p.2) (leaves-refused _ _ left c.in_err-size.ensures.line)

pub loop-preserved : goal.loop-preserved
loop-preserved g c =
    let left = rw (instructions-more (g.P.Peek.byte_at c.args.memory.now) c.loop.next c.args.count c.loop.counter _ c.loop-test.true
    c.four_from-code.ensures) at c.loop.invariant in
    rw (c.offset-next.ensures, c.from.ensures, c.in_ok-size.ensures.size) (leaves-less _ _ left c.in_ok-size.ensures.line)

pub returns : goal.returns
returns g c =
    leaves-nothing (rw (instructions-none (g.P.Peek.byte_at c.args.memory.now) c.loop.next (c.args.count - c.loop.counter)
    (omega (arith, c.loop-test.false))) at c.loop.invariant)
