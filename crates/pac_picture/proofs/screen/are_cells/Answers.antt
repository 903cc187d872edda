use Rattle.pac_picture.proofs.Common.{and_parts, eqb-true, slice_index}
use Rattle.pac_picture.proofs.Masks.{same-cells}

pub returns : Rattle.pac_picture.proofs.screen.are_cells.Goals.returns
returns c = λ none.
    let five = and_parts _ _ none in
    let four = and_parts _ _ five.0 in
    let three = and_parts _ _ four.0 in
    let two = and_parts _ _ three.0 in
    let one = and_parts _ _ two.0 in
    same-cells c.args.ram.now c.args.bytes.now c.args.row c.sixteen-first.result c.sixteen-second.result c.told-bytes
    (eqb-true _ _ one.0) (eqb-true _ _ one.1) c.sixteen-first.ensures c.sixteen-second.ensures
    (rw c.offset.ensures.offset at (eqb-true (slice_index c.args.ram.now c.offset.result) (slice_index c.args.bytes.now 0) two.1))
    (rw c.offset-2.ensures.offset at (eqb-true (slice_index c.args.ram.now c.offset-2.result) (slice_index c.args.bytes.now 1) three.1))
    (rw c.offset-3.ensures.offset at (eqb-true (slice_index c.args.ram.now c.offset-3.result) (slice_index c.args.bytes.now 34) four.1))
    (rw c.offset-4.ensures.offset at (eqb-true (slice_index c.args.ram.now c.offset-4.result) (slice_index c.args.bytes.now 35) five.1))
