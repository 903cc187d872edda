use Rattle.pac_listing.proofs.Common.{Leaves, all_rows, length}
use Rattle.pac_listing.proofs.rows.put_further_rows.Given as goal

abbrev pub invariant-loop-rest : goal.invariant-loop-rest
invariant-loop-rest g l =
    Leaves g.W.Out.took l.fn.pending l.fn.file (all_rows l.fn.first l.fn.bytes) (all_rows l.at l.rest) l.pending l.file

abbrev pub decreases-loop-rest : goal.decreases-loop-rest
decreases-loop-rest g l = length l.rest
