use Rattle.pac_media.proofs.Common.{arith, set-picture, ◌*◌, ◌+◌, ◌-◌, ◌≡◌}
use Rattle.pac_media.proofs.Blocks.{image-length, line-part, line-drawn, lines-step, all-lines}
use Rattle.pac_media.proofs.image.redraw.Goals as goal

pub slice_bounds-pixels-end : goal.slice_bounds-pixels-end
slice_bounds-pixels-end c = grind (arith, image-length)

pub redraw_line-requires : goal.redraw_line-requires
redraw_line-requires c = let part : 15 + 864 * c.loop-y.y + 864 - (15 + 864 * c.loop-y.y) ≡ 864 = omega arith in grind (arith, line-part)

pub loop-y-preserved : goal.loop-y-preserved
loop-y-preserved c = record {
  picture = set-picture c.loop-y.kept c.loop-y.y c.redraw_line.new.kept c.loop-y.invariant.picture c.loop-y-test.true
      (rw (c.redraw_line.ensures.kept, c.row.ensures.line) (c.row.ensures.picture.wide c.loop-y.y c.loop-y-test.true))
      (λ x. rw (c.redraw_line.ensures.kept, c.row.ensures.line) (c.row.ensures.picture.below x c.loop-y.y));
  drawn = grind (arith, line-drawn);
  high = λ _. c.row.ensures.picture.high;
  same = grind (arith, lines-step);
}

pub returns : goal.returns
returns c =
    let all : c.loop-y.y ≡ 224 = omega (arith, c.loop-y-test.false, c.loop-y.auto.y-end) in
    let same = all-lines c.loop-y.kept c.args.lines.now c.loop-y.y all c.loop-y.invariant.picture.high
    (c.loop-y.invariant.high (omega (arith, all))) c.loop-y.invariant.same in
    record { drawn = rw same at c.loop-y.invariant.drawn; kept = same; picture = rw same at c.loop-y.invariant.picture }
