use Rattle.std.proofs.Common.{arith, true, ◌+◌, ◌-◌, ◌≡◌}
use Rattle.pac_picture.proofs.Strips.{none-drawn, drawn-more, all-drawn}
use Rattle.pac_picture.proofs.strip.draw_all.Goals as goal

pub loop-place-init : goal.loop-place-init
loop-place-init c = record {
  last = λ some. absurd (omega (arith, some));
  drawn = none-drawn c.args.graphics.now c.args.tiles.now c.args.colours.now c.args.lines.now;
}

pub loop-place-preserved : goal.loop-place-preserved
loop-place-preserved c =
    let before : c.loop-place.place + 1 - 1 ≡ c.loop-place.place = omega arith in
    record {
      last = λ some. rw before c.next_twin-twin.ensures;
      drawn = drawn-more c.args.graphics.now c.args.tiles.now c.args.colours.now (λ _. true) c.loop-place.lines c.put_twin.new.lines
          c.loop-place.place c.next_twin-twin.result c.loop-place.invariant.drawn c.put_twin.ensures c.next_twin-twin.ensures;
    }

pub returns : goal.returns
returns c = λ x y across down.
    all-drawn c.args.graphics.now c.args.tiles.now c.args.colours.now (λ _. true) c.loop-place.lines c.loop-place.place x y
    (omega (arith, c.loop-place-test.false)) c.loop-place.invariant.drawn across down
