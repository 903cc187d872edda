use Rattle.pac_picture.proofs.Common.{arith, places, refl}
use Rattle.pac_picture.proofs.Cells.{cells-are}

pub returns : Rattle.pac_picture.proofs.screen.cells.Goals.returns
returns c =
    cells-are c.args.ram.now c.copy_from_slice.new.self c.args.row _ _ _ _ c.copy_from_slice.ensures.len
    (λ n inside. rw c.copy_from_slice.ensures.after (grind (arith, places, inside)))
    (rw c.offset.ensures.offset refl) (rw c.offset-2.ensures.offset refl) (rw c.offset-3.ensures.offset refl)
    (rw c.offset-4.ensures.offset refl)
