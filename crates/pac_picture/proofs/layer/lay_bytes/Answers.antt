use Rattle.pac_picture.proofs.Common.{refl, shadow_from, ◌∙◌}
use Rattle.pac_picture.proofs.Layers.{line-kept}

pub returns : Rattle.pac_picture.proofs.layer.lay_bytes.Goals.returns
returns c =
    c.lay_line.ensures
    ∙ line-kept c.args.graphics.now (shadow_from c.args.tiles.now c.args.colours.now) c.draw_all.new.lines c.args.y
    (λ fresh. c.draw_all.ensures) refl
