-- A step, and the offer of what it gave.
use Rattle.std.proofs.Common.{arith}
use Rattle.std.proofs.lemmas.Bool.Decides.{nat_tests}
use Rattle.std.proofs.lemmas.Result.{err_from_is_err_and}
use Rattle.pac_board.proofs.Turns.{turn-left, turn-taken}
use Rattle.pac_board.proofs.board.Board.turn.Goals as goal

pub returns-in_err-offer : goal.returns-in_err-offer
returns-in_err-offer g c =
    let told = err_from_is_err_and c.from_residual.result c.from_residual.ensures.1 in
    rw told.1 (turn-left c.do_step-met.ensures.done c.in_err-offer.ensures)

pub returns : goal.returns
returns g c = grind (arith, nat_tests, turn-taken, c.in_ok-offer.ensures, c.do_step-met.ensures.done, c.do_step-met.ensures.stop)
