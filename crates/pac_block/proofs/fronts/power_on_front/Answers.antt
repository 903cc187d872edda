-- The front of the board at power-on.
use Rattle.pac_block.proofs.Common.{View, ap, arith, black-picture, ◌∙◌}
use Rattle.pac_block.proofs.fronts.power_on_front.Goals as goal

pub block_front-requires : goal.block_front-requires
block_front-requires c =
    let memory = c.fields.ensures.fields ∙ c.new-kept.ensures in
    let count = ap (λ (view : View). view.latched.count) memory in
    rw c.power_on_fields.ensures (record {
      registers = c.fields.ensures.in_range.registers;
      count = omega (arith, count);
      accumulators = record { first = omega arith; second = omega arith; third = omega arith };
      steps = omega arith;
      time = omega arith;
      asked = omega arith;
      picture = black-picture c.args.lines.now c.requires;
    })

pub returns : goal.returns
returns c = λ set. rw (c.power_on_fields.ensures, c.fields.ensures.fields, c.new-kept.ensures, c.requires) at c.block_front.ensures
