-- The file of the board that these ROMs and the block make.
use Rattle.pac_block.proofs.Common.{arith}
use Rattle.pac_block.proofs.files.save.Goals as goal

pub put_file-requires-clause-in_range : goal.put_file-requires-clause-in_range
put_file-requires-clause-in_range c = c.in_ok-fields.ensures.in_range

pub returns : goal.returns
returns c =
    let opened = c.in_ok-fields.ensures in
    record {
      roms_are = c.in_ok-check_roms.ensures;
      size = omega (arith, c.if-text-ne-FILE_SIZE.false);
      block_is = opened.holds;
      saved = cc (c.put_file.ensures, c.digest.ensures, opened.state);
    }
