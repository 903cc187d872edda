-- The block of the board's state, which is read back.
use Rattle.pac_live.proofs.Common.{IsBlock, ap, block_text, refl, state_in, subst, sym, ◌∙◌}

pub returns : Rattle.pac_live.proofs.live_calls.give_block.Goals.returns
returns c =
    let text = c.write_block.ensures ∙ ap block_text c.fields.ensures.fields in
    let is_state = c.boards_have_states.ensures in (
      refl,
      record {
        text = text;
        state_is = ap state_in text ∙ c.blocks_are_read_back.ensures _ is_state;
        block_is = subst IsBlock (sym text) (c.states_have_blocks.ensures _ is_state);
      },
      refl,
    )
