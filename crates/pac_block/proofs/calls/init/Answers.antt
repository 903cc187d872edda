-- The block of the board at power-on: zeros with its front.
use Rattle.pac_block.proofs.Common.{front-of-zeros, lines-of-zeros, power_on_board, refl, set_of_roms}
use Rattle.pac_block.proofs.Becoming.{block-of}
use Rattle.pac_block.proofs.calls.init.Goals as goal

pub power_on_front-front-requires : goal.power_on_front-front-requires
power_on_front-front-requires c = rw (c.block_lines.ensures, c.clear.ensures) lines-of-zeros

pub returns : goal.returns
returns c =
    let state = (power_on_board (set_of_roms c.args.roms.now) c.args.switches).state in
    let front = c.power_on_front-front.ensures (set_of_roms c.args.roms.now) in
    record {
      roms_are = c.in_ok-check_roms.ensures;
      board = block-of state _ front.is_state
          (rw (c.put_front.ensures, c.clear.ensures) (front-of-zeros c.power_on_front-front.result state front refl));
    }
