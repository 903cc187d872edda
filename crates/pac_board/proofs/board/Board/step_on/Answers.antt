-- What the step gave was refused in part.
use Rattle.pac_board.proofs.Common.{TookAll, due_outputs, inr, nothing_due, rules, with_due, ◌≡◌}
use Rattle.pac_board.proofs.Turns.{step-refused}

pub returns-in-Err : Rattle.pac_board.proofs.board.Board.step_on.Goals.returns-in-Err
returns-in-Err g c =
    let old = c.args.self.now in
    let same : c.offer.new.self ≡ with_due old nothing_due = search rules in
    let before : TookAll g.S.Sink.took c.args.sink.now (due_outputs old) c.offer.new.sink = search rules in
    (search rules, inr (step-refused same before c.in-Err.ensures))
