use Rattle.std.proofs.Common.{[], arith, length}
use Rattle.pac_state.proofs.Framing.{next-fits}

pub put_at-end-requires : Rattle.pac_state.proofs.front.joined.Goals.put_at-end-requires
put_at-end-requires g c =
    next-fits (λ piece. piece.now) c.args.pieces.now c.loop-piece.piece-index (record { ref_ptr = (0, 0); now = [] }) 0
    c.loop-piece.end (length c.loop-piece.bytes) c.loop-piece-test.true
    (omega (arith, c.loop-piece.invariant.end)) (omega (arith, c.loop-piece.invariant.size))
