use Rattle.pac_picture.proofs.Common.{shadow_at, true, ◌/◌, ◌∙◌, ◌≡◌}
use Rattle.pac_picture.proofs.Layers.{line-kept}

pub returns-clause-line : Rattle.pac_picture.proofs.layer.Layer.line.Goals.returns-clause-line
returns-clause-line c =
    let fresh : (shadow_at c.self.inside.shadows (c.args.y / 8)).is_drawn ≡ true = rw (← c.self.view_is) at c.requires.drawn in
    c.lay_line.ensures ∙ rw (← c.self.view_is) (line-kept c.self.inside.graphics (shadow_at c.self.inside.shadows
    (c.args.y / 8)) c.keep.new.lines c.args.y c.keep.ensures.drawn fresh)
