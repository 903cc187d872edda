use Rattle.pac_debug.proofs.Common.{Ok, Scene, ap, arith, by, err_from_is_err_and, lines}
use Rattle.pac_debug.proofs.Giving.{lines-given}
use Rattle.pac_debug.proofs.LineByLine.{leads-on, leads-to-end, leads-to-fault}
use Rattle.pac_debug.proofs.lines.commands.Goals as goal

pub loop-line-preserved : goal.loop-line-preserved
loop-line-preserved g c =
    leads-on (by g.S.Sink.took g.S.Sink.refused) g.W.Out.took g.W.Out.refused (lines c.args.bytes.now) _ _ _ _
    (record { session = c.loop-line.session; sink = c.loop-line.sink; text = c.loop-line.text }) _
    c.in-Some.ensures.some c.loop-line.invariant c.in_ok-command.ensures

-- whatever the lines ask, what was given follows from how they were obeyed
pub returns-in_err-command-clause-given : goal.returns-in_err-command-clause-given
returns-in_err-command-clause-given g c =
    let old : Scene _ _ = record { session = c.args.session.now; sink = c.args.sink.now; text = c.args.text.now } in
    let now : Scene _ _ = record { session = c.loop-line.session; sink = c.loop-line.sink; text = c.loop-line.text } in
    let next : Scene _ _ = record { session = c.command.new.session; sink = c.command.new.sink; text = c.command.new.text } in
    let whole = lines c.args.bytes.now in
    let fault = c.in_err-command.field-0.0 in
    let obeyed =
    leads-to-fault (by g.S.Sink.took g.S.Sink.refused) g.W.Out.took g.W.Out.refused whole (lines c.loop-line.rest.now)
    (lines c.in-Some.after.now) c.in-Some.line.now old now next fault c.in-Some.ensures.some c.loop-line.invariant
    c.in_err-command.ensures in
    let told = err_from_is_err_and c.from_residual.result c.from_residual.ensures.1 in grind (arith, lines-given)

pub returns-clause-given : goal.returns-clause-given
returns-clause-given g c =
    let old : Scene _ _ = record { session = c.args.session.now; sink = c.args.sink.now; text = c.args.text.now } in
    let now : Scene _ _ = record { session = c.loop-line.session; sink = c.loop-line.sink; text = c.loop-line.text } in
    let whole = lines c.args.bytes.now in
    let obeyed =
    leads-to-end (by g.S.Sink.took g.S.Sink.refused) g.W.Out.took g.W.Out.refused whole (lines c.loop-line.rest.now) old now
    (ap lines c.in_default.ensures.none) c.loop-line.invariant in
    lines-given (by g.S.Sink.took g.S.Sink.refused) g.W.Out.took g.W.Out.refused whole (Ok tt) old now obeyed
