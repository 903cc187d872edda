use Rattle.pac_lex.proofs.Common.{length, scan, views, ◌≡◌}
use Rattle.pac_lex.proofs.ScanLemmas.{with_earlier}
use Rattle.pac_lex.proofs.reading.read.Given as goal

abbrev pub invariant-loop-found : goal.invariant-loop-found
invariant-loop-found g l = with_earlier (views l.found.items) (scan 0 l.rest) ≡ scan 0 l.line

abbrev pub decreases-loop-found : goal.decreases-loop-found
decreases-loop-found g l = length l.rest
