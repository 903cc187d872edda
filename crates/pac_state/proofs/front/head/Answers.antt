use Rattle.pac_state.proofs.Common.{ap, arith, length, state_of, written_version, ◌∙◌}
use Rattle.pac_state.proofs.Written.{head-is, length-head}
use Rattle.pac_state.proofs.front.head.Goals as goal

pub joined-requires : goal.joined-requires
joined-requires c = (
  omega arith,
  ap length (head-is c.args.digest.now (state_of c.args.fields.now) c.to_le_bytes.ensures c.processor.ensures c.to_le_bytes-2.ensures
      c.to_le_bytes-3.ensures c.to_le_bytes-4.ensures)
      ∙ length-head written_version c.args.digest.now (state_of c.args.fields.now) c.told-digest,
)

pub returns : goal.returns
returns c =
    c.joined.ensures
    ∙ head-is c.args.digest.now (state_of c.args.fields.now) c.to_le_bytes.ensures c.processor.ensures c.to_le_bytes-2.ensures
    c.to_le_bytes-3.ensures c.to_le_bytes-4.ensures
