-- The board of the block and the ROMs.
use Rattle.pac_live.proofs.Common.{BoardState, ap, restored_board, set_of_roms, state_of, ◌∙◌}
use Rattle.pac_live.proofs.live_calls.put_block.Goals as goal

pub put_fields-requires : goal.put_fields-requires
put_fields-requires c = c.in_ok-fields.ensures.in_range

pub returns : goal.returns
returns c =
    let opened = c.in_ok-fields.ensures in
    record {
      roms_are = c.in_ok-check_roms.ensures;
      block_is = opened.holds;
      board =
          c.put_fields.ensures
          ∙ ap (λ board. restored_board board (state_of c.in_ok-fields.fields)) c.put_roms.ensures
          ∙ ap (λ (state : BoardState). record {
            set = set_of_roms c.args.roms.now;
            state = state;
            made = c.args.board.now.made;
          }) opened.state;
    }
