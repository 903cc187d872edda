-- The picture of the block's board in the colours of the ROMs.
use Rattle.pac_block.proofs.Common.{BoardState, ap, arith}
use Rattle.pac_block.proofs.draw.draw.Goals as goal

pub put_lines-requires-clause-picture : goal.put_lines-requires-clause-picture
put_lines-requires-clause-picture c = c.in_ok-fields.ensures.in_range.picture

pub returns : goal.returns
returns c =
    let opened = c.in_ok-fields.ensures in
    let lines = ap (λ (state : BoardState). state.now.board.lines) opened.state in
    record {
      roms_are = c.in_ok-check_roms.ensures;
      size = omega arith;
      block_is = opened.holds;
      drawn = rw (← lines, c.put_lines.ensures, c.of.ensures, c.colours_of.ensures);
    }
