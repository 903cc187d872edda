use Rattle.pac_picture.proofs.Common.{is_in_box, sym, ◌∙◌}
use Rattle.pac_picture.proofs.Dots.{answer-none, answer-some, dot-off, dot-on}
use Rattle.pac_picture.proofs.painting.paint.Goals as goal

pub returns-in_default : goal.returns-in_default
returns-in_default c =
    let off = answer-none (is_in_box c.args.sprite.now.top c.args.y) _ (sym c.in_default.is ∙ c.line_at.ensures.line) in
    record { dots = λ x inside. dot-off c.args.graphics.now c.args.sprite.now x c.args.y _ off }

pub returns : goal.returns
returns c =
    let on = answer-some (is_in_box c.args.sprite.now.top c.args.y) _ c.in-Some.line (sym c.in-Some.is ∙ c.line_at.ensures.line) in
    record {
      dots = λ x inside.
          c.paint_line.ensures.dots x inside
          ∙ dot-on c.args.graphics.now c.args.sprite.now c.sprite_line-numbers.result c.in-Some.line x c.args.y _
          c.sprite_line-numbers.ensures on.0 on.1;
    }
