-- The block with the front of the board that holds other inputs.
use Rattle.pac_block.proofs.Common.{arith, board_holding, mask}
use Rattle.pac_block.proofs.Becoming.{becomes-front}

pub returns : Rattle.pac_block.proofs.calls.hold.Goals.returns
returns c =
    becomes-front (board_holding (mask c.args.set) (mask c.args.clear)) c.args.block.now.bytes c.in_ok-front.front _ (omega arith)
    c.in_ok-front.ensures c.put_front.ensures
