-- The block with the front of the board that is reset.
use Rattle.pac_block.proofs.Common.{arith, board_after_reset}
use Rattle.pac_block.proofs.Becoming.{becomes-front}

pub returns : Rattle.pac_block.proofs.calls.reset.Goals.returns
returns c =
    becomes-front board_after_reset c.args.block.now.bytes c.in_ok-front.front _ (omega arith) c.in_ok-front.ensures c.put_front.ensures
