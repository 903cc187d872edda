-- What the course tells, in the trail that is there.
use Rattle.pac_debug_session.proofs.Common.{BoardView, IsNoted, List, Moment, Next, Option, PastStep, Some, ap, is_some, noted-at, refl}
use Rattle.pac_debug_session.proofs.Common.{sym, true, ℕ, ◌∙◌, ◌≡◌}
use Rattle.pac_debug_session.proofs.Histories.{some-there, noted-there}
use Rattle.pac_debug_session.proofs.history.History.go.Goals as goal

-- there before and after
still-there : (next : Moment BoardView → Next BoardView) (until : ℕ) (from to : Moment BoardView) (told after : Option (List PastStep))
    → is_some told ≡ true → IsNoted next until from to told after → is_some after ≡ true
still-there next until from to told after is noted = ap is_some noted.told_is ∙ noted-there next from told noted.count is

pub invariant_of-self : goal.invariant_of-self
invariant_of-self g c = still-there _ _ _ _ _ _ c.self.invariant c.go.ensures.told_is

pub returns : goal.returns
returns g c =
    let there = still-there _ _ _ _ _ _ c.self.invariant c.go.ensures.told_is in
    record {
      made = c.go.ensures.made;
      told_is = rw (some-there c.self.inside.told c.self.invariant ∙ ap Some c.self.view_is) at
          (noted-at _ c.go.ensures.told_is refl (sym (some-there c.go.new.told there)));
      passes = c.go.ensures.passes;
    }
