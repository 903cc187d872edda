use Rattle.pac_state.proofs.Common.{arith, block_text, no_digest, refl, state_of, take_all, written_version}
use Rattle.pac_state.proofs.Written.{length-front, length-lines}
use Rattle.pac_state.proofs.block.write_block.Goals as goal

pub put_lines-end-requires : goal.put_lines-end-requires
put_lines-end-requires c = grind (arith, length-front, length-lines)

pub put_at-requires : goal.put_at-requires
put_at-requires c = grind (arith, length-front, length-lines)

pub returns : goal.returns
unfolding block_text
returns c =
    let state = state_of c.args.fields.now in
    let front = length-front written_version no_digest state refl c.in_range.ensures.memory in
    let rows = length-lines c.args.fields.now.lines.now c.in_range.ensures.range.picture in grind (arith, take_all)
