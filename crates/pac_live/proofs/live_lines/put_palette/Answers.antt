-- The pixels of all numbers are all that is written.
use Rattle.pac_live.proofs.Common.{arith, length, sym, take_all, ◌∙◌, ◌≡◌}

pub returns : Rattle.pac_live.proofs.live_lines.put_palette.Goals.returns
returns c =
    let size = c.put_pixels.ensures.size in
    let long : length c.put_pixels.new.rgba ≡ 64 = omega (arith, size, c.requires) in
    sym (take_all 64 c.put_pixels.new.rgba (omega (arith, long))) ∙ c.put_pixels.ensures.text
