use Rattle.pac_picture.specs.State.{black}
use Rattle.pac_picture.proofs.Composed.{black-picture}
use Rattle.pac_picture.proofs.lines.Lines.new.Goals as goal

pub invariant_of-result : goal.invariant_of-result
unfolding black
invariant_of-result c = black-picture c.repeated.result c.repeated.ensures

pub returns : goal.returns
unfolding black
returns c = c.repeated.ensures
