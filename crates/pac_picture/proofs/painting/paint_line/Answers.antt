use Rattle.std.proofs.Common.{arith, ◌+◌, ◌<◌, ◌≡◌}
use Rattle.pac_picture.proofs.Blended.{box-painted}

pub returns-then-columns : Rattle.pac_picture.proofs.painting.paint_line.Goals.returns-then-columns
returns-then-columns c =
    let whole : c.columns-columns.result.end ≡ c.columns-columns.result.start + 16 = omega (arith, c.if-columns.true) in
    let some : c.columns-columns.result.start < c.columns-columns.result.end = omega (arith, whole) in
    let boxed = c.columns-columns.ensures.boxed some in
    record {
      dots = λ x across.
          box-painted c.args.line.now c.shown.result c.args.out.now c.paint_box.new.out c.args.sprite.now c.columns-columns.result.start x
          (rw whole at (c.columns-columns.ensures.columns x)) boxed.0 (rw whole at boxed.1) c.shown.ensures (c.paint_box.ensures x across);
    }
