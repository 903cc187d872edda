use Rattle.std.proofs.Common.{refl}
use Rattle.pac_picture.specs.State.{black}
use Rattle.pac_picture.proofs.Composed.{black-picture}
use Rattle.pac_picture.proofs.Unpacked.{black-unpacked}
use Rattle.pac_picture.proofs.packed.PackedLines.new.Goals as goal

pub returns : goal.returns
returns c = black-unpacked c.repeated.result c.repeated.ensures

pub invariant_of-result : goal.invariant_of-result
invariant_of-result c = rw (black-unpacked c.repeated.result c.repeated.ensures) (black-picture black refl)
