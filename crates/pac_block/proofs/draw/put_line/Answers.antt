-- The pixels of a line, sixteen after sixteen.
use Rattle.pac_block.proofs.Common.{append_assoc, arith, get_or-chunk, length, opaque_pixel, ◌*◌, ◌+◌, ◌<◌, ◌∙◌, ◌≡◌}
use Rattle.pac_block.proofs.Woven.{sixteen-more}
use Rattle.pac_block.proofs.draw.put_line.Goals as goal

pub put_pixels-requires-clause-below : goal.put_pixels-requires-clause-below
put_pixels-requires-clause-below c k below =
    let at = 16 * c.loop-part.part in
    let within : at + k < length c.args.line.now = omega (arith, below, c.told-line, c.loop-part-test.true) in
    let is = get_or-chunk at 16 c.args.line.now k 0 below in
    rw (c.sixteen.ensures, is) (c.requires.below (at + k) within)

pub loop-part-preserved : goal.loop-part-preserved
loop-part-preserved c =
    let at = 16 * c.loop-part.part in
    let place : c.args.at + 64 * (c.loop-part.part + 1) ≡ c.args.at + 64 * c.loop-part.part + 64 = omega arith in
    let next : 16 * (c.loop-part.part + 1) ≡ at + 16 = omega arith in
    record {
      size = c.put_pixels.ensures.size ∙ c.loop-part.invariant.size;
      text = rw (
        place,
        next,
        c.put_pixels.ensures.text,
        c.loop-part.invariant.text,
        append_assoc,
        c.sixteen.ensures,
        sixteen-more (opaque_pixel c.args.palette.now) c.args.line.now at,
      );
    }
