-- What was cleared is as at power-on.
use Rattle.pac_map.proofs.Common.{IsWellFormed, subst, sym}
use Rattle.pac_map.proofs.WellFormed.{power-on-well-formed}

pub invariant_of-result : Rattle.pac_map.proofs.memory.Memory.new.Goals.invariant_of-result
invariant_of-result c = subst IsWellFormed (sym (λ i. record {
  switches = c.args.switches;
  held = c.from_bits_retain.ensures tt i;
  tile = c.zeros.ensures i;
  colour = c.zeros-2.ensures i;
  work = c.zeros-3.ensures i;
  coordinates = c.zeros-4.ensures i;
  registers = c.zeros-5.ensures i;
  latched = c.new.ensures i;
})) (power-on-well-formed c.args.switches)
