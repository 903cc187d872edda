use Rattle.pac_debug.proofs.Common.{by, length, lines}
use Rattle.pac_debug.proofs.LineByLine.{Leads}
use Rattle.pac_debug.proofs.lines.commands.Given as goal

abbrev pub invariant-loop-line : goal.invariant-loop-line
invariant-loop-line g l =
    Leads (by g.S.Sink.took g.S.Sink.refused) g.W.Out.took g.W.Out.refused (lines l.fn.bytes) (lines l.rest)
    (record { session = l.fn.session; sink = l.fn.sink; text = l.fn.text }) (record { session = l.session; sink = l.sink; text = l.text })

abbrev pub decreases-loop-line : goal.decreases-loop-line
decreases-loop-line g l = length l.rest
