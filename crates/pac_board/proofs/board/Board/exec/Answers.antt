-- The time that went by, and a refusal.
use Rattle.pac_board.proofs.Common.{BoardValue, TookAll, ap, arith, by, due_outputs, most_asked, rules, time_of, ◌+◌, ◌≡◌, ◌≤◌}
use Rattle.pac_board.proofs.Turns.{more_asked, run-later, run-refused}
use Rattle.pac_board.proofs.board.Board.exec.Goals as goal

pub overflow_sub-result : goal.overflow_sub-result
overflow_sub-result g c =
    let same : c.offer.new.self ≡ more_asked c.args.self.now c.args.us = search rules in
    let begun = ap (λ (board : BoardValue). board.state.now.time) same in
    let longer = run-later c.in-Ok.ensures in
    let viewed = ap (λ (board : BoardValue). board.state.now.time) c.self.view_is in
    omega arith

pub returns-in-Err : goal.returns-in-Err
returns-in-Err g c =
    let old = c.args.self.now in
    let asked : c.self.inside.asked + c.from.result ≡ old.state.asked + c.args.us = search rules in
    let within : old.state.asked + c.args.us ≤ most_asked = omega arith in
    let same : c.offer.new.self ≡ more_asked old c.args.us = search rules in
    let before : TookAll g.S.Sink.took c.args.sink.now (due_outputs old) c.offer.new.sink = search rules in
    run-refused (by g.S.Sink.took g.S.Sink.refused) old c.offer.new.self c.run_untold.new.self c.args.us _
    c.args.sink.now c.offer.new.sink c.run_untold.new.sink within (ap time_of asked) same before c.in-Err.ensures
