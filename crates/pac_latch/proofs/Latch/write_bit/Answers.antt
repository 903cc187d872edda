use Rattle.pac_latch.proofs.Common.{ap, is_latch_bit_set, refl, ◌∙◌}
use Rattle.pac_latch.proofs.Bits.{listed-of_list, is_set-written, is_set-others}
use Rattle.pac_latch.proofs.Latch.write_bit.Goals as goal

pub returns-clause-latched : goal.returns-clause-latched
returns-clause-latched c = rw (← c.self.view_is, c.withdraws.ensures, listed-of_list c.self.inside.bits c.self.told) refl

pub returns-clause-set : goal.returns-clause-set
returns-clause-set c =
    ap (λ latched. is_latch_bit_set latched c.args.place) (returns-clause-latched c)
    ∙ is_set-written c.args.self.now c.args.place c.args.bit

pub returns-clause-others : goal.returns-clause-others
returns-clause-others c =
    λ other apart.
    ap (λ latched. is_latch_bit_set latched other) (returns-clause-latched c)
    ∙ is_set-others c.args.self.now c.args.place c.args.bit other apart
