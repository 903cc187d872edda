use Rattle.pac_out.proofs.Common.{drop, flat_map}
use Rattle.pac_out.proofs.Gathering.{Leaves}

abbrev pub invariant-loop-piece : Rattle.pac_out.proofs.pending.Pending.put_pieces.Given.invariant-loop-piece
invariant-loop-piece g l =
    Leaves g.W.Out.took l.fn.self l.fn.file (flat_map (λ piece. piece.now) l.pieces)
    (flat_map (λ piece. piece.now) (drop l.piece-index l.pieces)) l.self l.file
