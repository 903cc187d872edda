-- The front of the board that holds other inputs: its ROMs make no difference.
use Rattle.pac_block.proofs.Common.{board_holding, mask, refl, rules}
use Rattle.pac_block.proofs.Becoming.{front-of}
use Rattle.pac_block.proofs.fronts.holding_front.Goals as goal

pub block_front-requires : goal.block_front-requires
block_front-requires c = let range = c.in_ok-fields.ensures.in_range in search rules

pub returns : goal.returns
returns c =
    let opened = c.in_ok-fields.ensures in
    record {
      is_block = opened.holds;
      front_is = λ roms.
          front-of (board_holding (mask c.args.set) (mask c.args.clear)) roms c.args.block.now.bytes _ opened.state
          (rw c.holding-held.ensures at c.block_front.ensures);
      lines = λ roms. refl;
    }
