use Rattle.pac_state.proofs.Common.{ap, arith, length, state_of, written_version, ◌∙◌}
use Rattle.pac_state.proofs.Written.{front-is, length-front}
use Rattle.pac_state.proofs.front.front.Goals as goal

pub joined-requires : goal.joined-requires
joined-requires c = (
  omega arith,
  ap length (front-is c.args.digest.now (state_of c.args.fields.now) c.head-head.ensures c.devices-devices.ensures)
      ∙ length-front written_version c.args.digest.now (state_of c.args.fields.now) c.told-digest c.in_range.ensures.memory,
)

pub returns : goal.returns
returns c = c.joined.ensures ∙ front-is c.args.digest.now (state_of c.args.fields.now) c.head-head.ensures c.devices-devices.ensures
