-- A stretch of the machine is one of the board.
use Rattle.std.proofs.Common.{arith}
use Rattle.std.proofs.lemmas.Bool.Decides.{nat_tests}
use Rattle.pac_board.proofs.Common.{by_view}

pub returns-clause-told : Rattle.pac_board.proofs.board.Board.make_stretch.Goals.returns-clause-told
returns-clause-told g c = grind (arith, nat_tests, by_view, c.stretch.ensures.told)
