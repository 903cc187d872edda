use Rattle.pac_board.specs.SinksLaws.{by}
use Rattle.pac_board.proofs.Hosts.{lists-are-cut}

pub returns : Rattle.pac_board.proofs.laws.lists_are_cut.Goals.returns
returns g c = lists-are-cut (by g.S.Sink.took g.S.Sink.refused)
