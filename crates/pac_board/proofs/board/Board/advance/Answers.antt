-- The kind of a step was found before it.
use Rattle.std.proofs.Common.{arith}
use Rattle.std.proofs.lemmas.Bool.Decides.{nat_tests}
use Rattle.pac_board.proofs.Common.{next_of, told_once}
use Rattle.pac_board.proofs.Turns.{is-told, step-short}
use Rattle.pac_board.proofs.board.Board.advance.Goals as goal

pub once_told-requires : goal.once_told-requires
once_told-requires c =
    let old = c.args.self.now in
    rw c.time-begun.ensures.time
    (step-short old c.do_step-met.new.self old.state.due c.do_step-met.new.self.state.due c.do_step-met.ensures.done.board)

pub returns : goal.returns
returns c =
    grind (
      arith,
      nat_tests,
      next_of,
      told_once,
      is-told,
      c.do_step-met.ensures.done,
      c.time-begun.ensures.time,
      c.once_told.ensures,
      c.do_step-met.ensures.stop,
    )
