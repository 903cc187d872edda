use Rattle.pac_board.specs.SinksLaws.{by}
use Rattle.pac_board.proofs.Hosts.{calls-of-the-history}

pub returns : Rattle.pac_board.proofs.laws.calls_are_of_the_history.Goals.returns
returns g c = calls-of-the-history (by g.S.Sink.took g.S.Sink.refused)
