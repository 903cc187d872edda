use Rattle.pac_board.specs.SinksLaws.{by}
use Rattle.pac_board.proofs.Pieces.{refusals-taken-up}

pub returns : Rattle.pac_board.proofs.laws.refusals_are_taken_up.Goals.returns
returns g c = refusals-taken-up (by g.S.Sink.took g.S.Sink.refused)
