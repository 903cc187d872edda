use Rattle.pac_latch.proofs.Common.{ap, arith, bits_of, sym, ◌∙◌}
use Rattle.pac_latch.proofs.Bits.{bits_of-byte_of}
use Rattle.pac_latch.proofs.Latch.bits.Goals as goal

pub returns-clause-byte : goal.returns-clause-byte
returns-clause-byte c =
    rw (← c.self.view_is)
    (omega (
      arith,
      c.digit.ensures.value,
      c.digit-2.ensures.value,
      c.digit-3.ensures.value,
      c.digit-4.ensures.value,
      c.digit-5.ensures.value,
      c.digit-6.ensures.value,
      c.digit-7.ensures.value,
      c.digit-8.ensures.value,
    ))

pub returns-clause-bits : goal.returns-clause-bits
returns-clause-bits c = sym (bits_of-byte_of c.args.self.now.bits) ∙ ap bits_of (sym (returns-clause-byte c))
