use Rattle.pac_picture.proofs.Common.{rules, slice_index, sprite_at, sprite_dot, ◌*◌}
use Rattle.pac_picture.proofs.Painted.{none-painted}
use Rattle.pac_picture.proofs.Boxes.{none-there}
use Rattle.pac_picture.proofs.Dots.{dot-off}

pub returns-else-boxes-ne0 : Rattle.pac_picture.proofs.painting.paint_unless_none.Goals.returns-else-boxes-ne0
returns-else-boxes-ne0 c =
    let roms = c.args.graphics.now in
    let sprite = sprite_at c.args.screen.now in
    let y = c.args.y in
    record {
      dots = λ x inside. none-painted (λ k. sprite_dot roms (sprite k) x y) (slice_index c.args.out.now x)
          (λ k under below.
          dot-off roms (sprite k) x y under
          (none-there c.boxes_on-boxes.result _ (2 * k) (search rules) (c.boxes_on-boxes.ensures k below)));
    }
