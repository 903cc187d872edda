-- The block of the state that a call for some time leaves, which is read back.
use Rattle.pac_block.proofs.Becoming.{block-of}
use Rattle.pac_block.proofs.Common.{BoardState, Fields, Option, Stop, ap, asked_left, block_text, state_left, state_of, ℕ, ◌∙◌, ◌≡◌}
use Rattle.pac_block.proofs.Stops.{left-is-state}
use Rattle.pac_block.proofs.block.keep_run.Goals as goal

-- the state of fields of which no more is asked than meets the stop again
left : (fields : Fields) (state : BoardState) (stop : Option Stop) (asked : ℕ) → asked ≡ asked_left stop fields.asked fields.time
    → state_of fields ≡ state → state_of (record fields { asked = asked }) ≡ state_left stop state
left fields state stop asked is same = cc

pub asked_left-requires : goal.asked_left-requires
asked_left-requires c = c.fields-fields.ensures.in_range.time

pub write_block-requires : goal.write_block-requires
write_block-requires c =
    let stop = c.args.stop.now in
    let state = c.args.machine.now.state in
    rw (left c.fields-fields.result state stop c.asked_left.result c.asked_left.ensures c.fields-fields.ensures.fields)
    (left-is-state stop state c.requires c.boards_have_states.ensures).range

pub returns : goal.returns
returns c =
    let stop = c.args.stop.now in
    let state = c.args.machine.now.state in
    let text =
    c.write_block.ensures
    ∙ ap block_text (left c.fields-fields.result state stop c.asked_left.result c.asked_left.ensures c.fields-fields.ensures.fields) in
    block-of _ _ (left-is-state stop state c.requires c.boards_have_states.ensures) text
