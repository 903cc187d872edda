use Rattle.std.proofs.Common.{arith}
use Rattle.pac_debug_session.proofs.Rings.{one-more-kept, all-made}
use Rattle.pac_debug_session.proofs.checkpoints.room.Goals as goal

pub making-preserved : goal.making-preserved
making-preserved c = grind (arith, one-more-kept)

pub returns : goal.returns
returns c = (
  all-made _ c.making.counter c.making.invariant.count c.making-test.false c.making.auto.counter-end,
  c.making.invariant.capacity,
)
