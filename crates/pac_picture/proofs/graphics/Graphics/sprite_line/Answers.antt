use Rattle.pac_picture.proofs.Common.{AreNumbersOf, VideoRoms, ap, rules, sprite_values, subst, ◌∙◌}
use Rattle.pac_picture.proofs.Decoded.{sprite-line, sprite-below, values-are-places}
use Rattle.pac_picture.proofs.graphics.Graphics.sprite_line.Goals as goal

pub picked-requires : goal.picked-requires
picked-requires c =
    values-are-places c.sprite_values.result (rw c.sprite_values.ensures (sprite-below c.self.inside.sprites c.args.code c.args.y))

pub returns : goal.returns
returns c =
    sprite-line c.args.self.now c.args.colour c.args.code c.args.y c.numbers.result c.sprite_values.result c.picked.result
    (search rules)
    (c.sprite_values.ensures ∙ ap (λ (roms : VideoRoms). sprite_values roms.sprites c.args.code c.args.y) c.self.view_is)
    (subst (λ rom. AreNumbersOf rom c.args.colour c.numbers.result) (ap (λ (roms : VideoRoms). roms.lookup) c.self.view_is)
    c.numbers.ensures) c.picked.ensures
