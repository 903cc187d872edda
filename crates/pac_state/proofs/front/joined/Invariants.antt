use Rattle.pac_state.proofs.Common.{flat_map, length, take, ◌≡◌}

abbrev pub invariant-loop-piece : Rattle.pac_state.proofs.front.joined.Given.invariant-loop-piece
invariant-loop-piece g l = record {
  size : length l.bytes ≡ g.row.N;
  end : l.end ≡ length (flat_map (λ piece. piece.now) (take l.piece-index l.pieces));
  text : take l.end l.bytes ≡ flat_map (λ piece. piece.now) (take l.piece-index l.pieces);
}
