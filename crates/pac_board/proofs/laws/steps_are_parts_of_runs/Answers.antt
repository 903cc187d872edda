use Rattle.pac_board.specs.SinksLaws.{by}
use Rattle.pac_board.proofs.Pieces.{steps-are-parts}

pub returns : Rattle.pac_board.proofs.laws.steps_are_parts_of_runs.Goals.returns
returns g c = steps-are-parts (by g.S.Sink.took g.S.Sink.refused)
