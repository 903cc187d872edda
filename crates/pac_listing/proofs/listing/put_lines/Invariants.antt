use Rattle.pac_listing.proofs.Common.{Leaves, length, lines, lines_from, ◌+◌, ◌≡◌}
use Rattle.pac_listing.proofs.listing.put_lines.Given as goal

abbrev pub invariant-loop-line : goal.invariant-loop-line
invariant-loop-line g l =
    (l.number + length l.lines_left ≡ 1 + length l.fn.lines)
    × Leaves g.W.Out.took l.fn.pending l.fn.file (lines_from 1 l.fn.lines (lines l.fn.source))
    (lines_from l.number l.lines_left (lines l.rest))
    l.pending l.file

abbrev pub decreases-loop-line : goal.decreases-loop-line
decreases-loop-line g l = length l.lines_left
