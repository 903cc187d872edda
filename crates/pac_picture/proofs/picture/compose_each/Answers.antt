use Rattle.pac_picture.proofs.Common.{ap, arith, lines_composed, refl, ◌-◌, ◌∙◌, ◌≡◌}
use Rattle.pac_picture.proofs.Composed.{line-on}
use Rattle.pac_picture.proofs.picture.compose_each.Goals as goal

pub loop-y-init : goal.loop-y-init
loop-y-init c =
    let none : 0 ≡ c.args.first - c.args.first = omega arith in
    record {
      done = ap (lines_composed c.args.layer.now.roms c.args.screen.now c.args.lines.now c.args.first) none;
      roms = refl;
      clean = c.requires.clean;
      flip = c.requires.flip;
      drawn = λ below. absurd (omega (arith, below));
    }

pub compose_line-requires-clause-drawn : goal.compose_line-requires-clause-drawn
compose_line-requires-clause-drawn c = rw c.source-row.ensures.line at c.draw_other_row.ensures.drawn

pub compose_line-requires-clause-clean : goal.compose_line-requires-clause-clean
compose_line-requires-clause-clean c = c.draw_other_row.ensures.clean _ c.loop-y.invariant.clean

pub compose_line-requires-clause-flip : goal.compose_line-requires-clause-flip
compose_line-requires-clause-flip c = c.draw_other_row.ensures.flip ∙ c.loop-y.invariant.flip

pub loop-y-preserved : goal.loop-y-preserved
loop-y-preserved c = record {
  done = line-on c.args.layer.now.roms c.args.screen.now c.args.lines.now c.args.first c.loop-y.y c.loop-y.lines _ c.loop-y.auto.y
      c.loop-y.invariant.done
      (rw (c.draw_other_row.ensures.roms, c.loop-y.invariant.roms) at c.compose_line.ensures.lines);
  roms = rw c.compose_line.ensures.layer (c.draw_other_row.ensures.roms ∙ c.loop-y.invariant.roms);
  clean = rw c.compose_line.ensures.layer c.compose_line.ensures.clean;
  flip = c.compose_line.ensures.flip ∙ c.draw_other_row.ensures.flip ∙ c.loop-y.invariant.flip;
  drawn = λ below. rw c.compose_line.ensures.layer c.draw_other_row.ensures.drawn;
}

pub returns : goal.returns
returns c =
    let end : c.loop-y.y ≡ c.args.end = omega (arith, c.loop-y.auto.y-end c.requires.order, c.loop-y-test.false) in
    record {
      lines = rw end at c.loop-y.invariant.done;
      roms = c.loop-y.invariant.roms;
      clean = c.loop-y.invariant.clean;
    }
