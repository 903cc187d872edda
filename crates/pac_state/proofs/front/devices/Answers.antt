use Rattle.pac_state.proofs.Common.{ap, arith, length, state_of, ◌∙◌}
use Rattle.pac_state.proofs.Written.{devices-are, length-devices}
use Rattle.pac_state.proofs.front.devices.Goals as goal

pub joined-requires : goal.joined-requires
joined-requires c = (
  omega arith,
  ap length (devices-are (state_of c.args.fields.now) c.to_le_bytes.ensures c.to_le_bytes-2.ensures c.to_le_bytes-3.ensures
      c.controls.ensures c.due.ensures)
      ∙ length-devices (state_of c.args.fields.now) c.sizes.ensures.coordinates c.sizes.ensures.registers,
)

pub returns : goal.returns
returns c =
    c.joined.ensures
    ∙ devices-are (state_of c.args.fields.now) c.to_le_bytes.ensures c.to_le_bytes-2.ensures c.to_le_bytes-3.ensures c.controls.ensures
    c.due.ensures
