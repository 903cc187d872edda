use Rattle.std.proofs.Common.{arith}
use Rattle.std.proofs.lemmas.Bool.Decides.{nat_tests}
use Rattle.pac_out.proofs.Common.{List, [], ap, drop, drop_more, err_from_is_err_and, flat_map, subst, ℕ, ◌+◌}
use Rattle.pac_out.proofs.Gathering.{Leaves, leaves-less, leaves-refused}
use Rattle.pac_out.proofs.pending.Pending.put_pieces.Goals as goal

pub returns-in_err-put : goal.returns-in_err-put
returns-in_err-put g c =
    let pieces = c.args.pieces.now in
    let i = c.loop-piece.piece-index in
    let first = ap (flat_map (λ piece. piece.now)) (drop_more pieces i (record { ref_ptr = (0, 0); now = [] }) c.loop-piece-test.true) in
    let leaves = subst (λ (rest : List ℕ). Leaves g.W.Out.took c.args.self.now c.args.file.now (flat_map (λ piece. piece.now) pieces) rest
    c.loop-piece.self c.loop-piece.file) first c.loop-piece.invariant in
    let p = err_from_is_err_and c.from_residual.result c.from_residual.ensures.1 in
    rw (p.1, p.2) (leaves-refused _ (flat_map (λ piece. piece.now) (drop (i + 1) pieces)) leaves c.in_err-put.ensures)

pub loop-piece-preserved : goal.loop-piece-preserved
loop-piece-preserved g c =
    grind (arith, nat_tests, flat_map, drop_more, leaves-less, c.loop-piece-test.true, c.loop-piece.invariant, c.in_ok-put.ensures)
