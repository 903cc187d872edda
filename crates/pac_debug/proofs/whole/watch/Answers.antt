-- The lines, and then the run's end.
use Rattle.pac_debug.proofs.Common.{Scene, arith, by, err_from_is_err_and, lines}
use Rattle.pac_debug.proofs.ToTheEnd.{finished, held-up, ended-early}
use Rattle.pac_debug.proofs.whole.watch.Goals as goal

pub returns-in_err-commands : goal.returns-in_err-commands
returns-in_err-commands g c =
    let mid : Scene _ _ = record { session = c.commands.new.session; sink = c.commands.new.sink; text = c.commands.new.text } in
    let told = err_from_is_err_and c.from_residual.result c.from_residual.ensures.1 in
    rw (told.1, told.2) (record { left = mid.session; watched = grind (arith, ended-early) })

pub returns-in-Ok : goal.returns-in-Ok
returns-in-Ok g c =
    let old : Scene _ _ = record { session = c.args.session; sink = c.args.sink.now; text = c.args.text.now } in
    let mid : Scene _ _ = record { session = c.commands.new.session; sink = c.commands.new.sink; text = c.commands.new.text } in
    let watched_is =
    finished (by g.S.Sink.took g.S.Sink.refused) g.W.Out.took g.W.Out.refused (lines c.args.bytes.now) old mid c.in_ok-commands.field-0
    c.in_ok-commands.ensures.obeys c.in_ok-commands.ensures.given _ c.in-Ok.ensures.left _ c.in-Ok.ensures.finishes in
    grind (arith, finished)

pub returns-in-Err : goal.returns-in-Err
returns-in-Err g c =
    let old : Scene _ _ = record { session = c.args.session; sink = c.args.sink.now; text = c.args.text.now } in
    let mid : Scene _ _ = record { session = c.commands.new.session; sink = c.commands.new.sink; text = c.commands.new.text } in
    let watched_is =
    held-up (by g.S.Sink.took g.S.Sink.refused) g.W.Out.took g.W.Out.refused (lines c.args.bytes.now) old mid c.in_ok-commands.field-0
    c.in_ok-commands.ensures.obeys c.in_ok-commands.ensures.given c.in-Err.ensures.left _ c.in-Err.ensures.finishes in
    grind (arith, held-up)
