-- The lines of a picture, one after another.
use Rattle.pac_block.proofs.Common.{[], arith, flat_map, flat_map-one-more, length, opaque_pixel, rgba_of, take_all, ◌*◌, ◌+◌, ◌<◌, ◌∙◌}
use Rattle.pac_block.proofs.Common.{◌≡◌}
use Rattle.pac_block.proofs.draw.put_lines.Goals as goal

pub loop-y-preserved : goal.loop-y-preserved
loop-y-preserved c =
    let high : length c.args.lines.now ≡ 224 = c.raw_row.ensures.high in
    let inside : c.loop-y.y < length c.args.lines.now = omega (arith, high, c.loop-y-test.true) in
    let place : 1152 * (c.loop-y.y + 1) ≡ 1152 * c.loop-y.y + 1152 = omega arith in
    let more = flat_map-one-more (flat_map (opaque_pixel c.args.palette.now)) c.args.lines.now c.loop-y.y [] inside in
    record {
      size = c.put_line.ensures.size ∙ c.loop-y.invariant.size;
      text = rw (place, c.put_line.ensures.text, c.loop-y.invariant.text, c.raw_row.ensures.line, more);
      high = λ _. high;
    }

pub returns : goal.returns
unfolding rgba_of
returns c =
    let end : c.loop-y.y ≡ 224 = omega arith in
    let high : length c.args.lines.now ≡ 224 = c.loop-y.invariant.high (omega (arith, end)) in
    let rows = take_all c.loop-y.y c.args.lines.now (omega (arith, end, high)) in
    let whole = take_all (1152 * c.loop-y.y) c.loop-y.rgba (omega (arith, end, c.loop-y.invariant.size, c.requires.size)) in
    rw (rows, whole) at c.loop-y.invariant.text
