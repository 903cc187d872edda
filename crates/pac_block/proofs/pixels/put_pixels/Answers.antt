-- What was picked of the three colours, woven and written part by part.
use Rattle.pac_block.proofs.Common.{arith, get_or, length, ℕ, ◌<◌, ◌∙◌}
use Rattle.pac_block.proofs.Woven.{four-parts, woven-pixels}

pub returns-clause-text : Rattle.pac_block.proofs.pixels.put_pixels.Goals.returns-clause-text
returns-clause-text c =
    let colours = c.palette.inside in
    let bytes = c.weave.result in
    let below : (k : ℕ) → k < length c.args.numbers → get_or c.args.numbers k 0 < 16 =
    λ k inside. c.requires.below k (omega (arith, c.fits-numbers.0, inside)) in
    let pixels = woven-pixels colours.reds colours.greens colours.blues c.args.numbers below in
    four-parts c.args.at c.args.rgba.now c.put_vector.new.to c.put_vector-2.new.to c.put_vector-3.new.to c.put_vector-4.new.to
    bytes.0 bytes.1 bytes.2 bytes.3
    c.put_vector.ensures.text c.put_vector-2.ensures.text c.put_vector-3.ensures.text c.put_vector-4.ensures.text
    ∙ rw (c.weave.ensures, c.picked-red.ensures, c.picked-green.ensures, c.picked-blue.ensures, pixels, c.palette.view_is)
