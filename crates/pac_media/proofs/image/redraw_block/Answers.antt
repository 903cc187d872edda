use Rattle.pac_media.proofs.Common.{arith, ◌+◌, ◌-◌, ◌≡◌}
use Rattle.pac_media.proofs.Blocks.{block-drawn}

pub returns : Rattle.pac_media.proofs.image.redraw_block.Goals.returns
returns c =
    let part : c.args.start + 16 - c.args.start ≡ 16 = omega arith in
    block-drawn c.args.palette.now c.args.numbers.now c.args.pixels.now c.args.kept.now c.copy_sixteen.new.to c.colour.new.pixels
    c.args.start _ _ c.told-numbers c.told-kept c.requires.start (omega arith) (omega arith) c.requires.drawn
    (rw part at c.copy_sixteen.ensures) (rw c.copy_sixteen.ensures c.colour.ensures)
