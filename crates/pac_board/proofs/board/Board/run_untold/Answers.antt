-- With no address to stop at, and none that is watched, the loop goes to its limit.
use Rattle.std.proofs.Common.{arith}
use Rattle.std.proofs.lemmas.Bool.Decides.{nat_tests}
use Rattle.pac_board.proofs.Roads.{goes-free}

pub returns : Rattle.pac_board.proofs.board.Board.run_untold.Goals.returns
returns g c = grind (arith, nat_tests, goes-free, c.none.ensures, c.run-ran.ensures.made)
