use Rattle.pac_board.specs.SinksLaws.{by}
use Rattle.pac_board.proofs.Hosts.{restores-give-again}

pub returns : Rattle.pac_board.proofs.laws.restores_give_again.Goals.returns
returns g c = restores-give-again (by g.S.Sink.took g.S.Sink.refused)
