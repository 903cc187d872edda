-- What was picked of the three planes, woven and written part by part.
use Rattle.pac_media.proofs.Common.{get_or, length, ℕ, ◌<◌, ◌∙◌}
use Rattle.pac_media.proofs.Pixels.{three-parts, woven-pixels}

pub returns : Rattle.pac_media.proofs.palette.Palette.colour.Goals.returns
returns c =
    let numbers = c.args.numbers.now in
    let planes = c.self.inside.planes in
    let bytes = c.weave.result in
    let below : (k : ℕ) → k < length numbers → get_or numbers k 0 < 16 = c.requires.below in
    let long = c.put_vector-3.ensures.size ∙ c.put_vector-2.ensures.size ∙ c.put_vector.ensures.size ∙ c.requires.pixels in
    let pixels = woven-pixels c.self.inside.colours.items planes.reds planes.greens planes.blues numbers c.self.invariant.made below in
    three-parts c.args.pixels.now c.put_vector.new.to c.put_vector-2.new.to c.put_vector-3.new.to bytes.0 bytes.1 bytes.2
    c.put_vector.ensures.text c.put_vector-2.ensures.text c.put_vector-3.ensures.text long
    ∙ rw (
      c.weave.ensures,
      c.picked-red.ensures,
      c.picked-green.ensures,
      c.picked-blue.ensures,
      c.sixteen-lanes.ensures,
      pixels,
      c.self.view_is,
    )
