use Rattle.std.proofs.lemmas.Bool.Decides.{nat_tests}
use Rattle.pac_out.proofs.Common.{CountedWriter, ap, arith, length-append, refl, sym, true≢false, ◌∙◌}
use Rattle.pac_out.proofs.Files.{stops-after}
use Rattle.pac_out.proofs.counted.Counted.put.Goals as goal

pub returns-in-Ok-clause-put : goal.returns-in-Ok-clause-put
returns-in-Ok-clause-put g c = grind (arith, nat_tests, length-append, c.in_ok-check_open.ensures.open, c.in-Ok.ensures.ok)

pub returns-in-Err-clause-put : goal.returns-in-Err-clause-put
returns-in-Err-clause-put g c =
    let was_open = ap (λ (file : CountedWriter g.row.W.Denot). file.failed) c.self.view_is ∙ c.in_ok-check_open.ensures.open in
    rw (← c.self.view_is)
    (record {
      told = refl;
      at_least = omega arith;
      after = λ start text taken. record {
        taken = _;
        stopped = stops-after g.met.W.Out.joined taken.written c.in-Err.ensures.err;
        count_is = omega (arith, taken.count_is);
        closed = refl;
      };
      closed = refl;
      later = λ failed. absurd (true≢false (sym failed ∙ was_open));
    })

pub returns-in-Err-clause-stops : goal.returns-in-Err-clause-stops
returns-in-Err-clause-stops g c =
    rw (← c.self.view_is) (λ before. record { taken = _; stopped = c.in-Err.ensures.err; count_is = omega arith })
