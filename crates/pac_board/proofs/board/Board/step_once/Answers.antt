-- The kind of a step was found before it, and before what was due was offered.
use Rattle.std.proofs.Common.{arith}
use Rattle.std.proofs.lemmas.Bool.Decides.{nat_tests}
use Rattle.pac_board.proofs.Common.{next_of, nothing_due, told_once, with_due}
use Rattle.pac_board.proofs.Turns.{is-told, step-short}
use Rattle.pac_board.proofs.board.Board.step_once.Goals as goal

pub once_told-requires : goal.once_told-requires
once_told-requires g c =
    let old = c.args.self.now in
    rw c.time-begun.ensures.time
    (step-short old c.step_on.new.self nothing_due nothing_due c.in-Ok.ensures.0.board)

pub returns-in-Ok : goal.returns-in-Ok
returns-in-Ok g c =
    grind (
      arith,
      nat_tests,
      next_of,
      told_once,
      is-told,
      with_due,
      nothing_due,
      c.in-Ok.ensures.0,
      c.time-begun.ensures.time,
      c.once_told.ensures,
      c.in-Ok.ensures.1,
    )
