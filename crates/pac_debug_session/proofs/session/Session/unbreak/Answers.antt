-- What is left are the other breakpoints.
use Rattle.pac_debug_session.proofs.Common.{SessionValue, ap, arith, length, length-filter_both, not, refl, rules, without_breakpoint, ◌==◌}
use Rattle.pac_debug_session.proofs.session.Session.unbreak.Goals as goal

pub invariant_of-self : goal.invariant_of-self
invariant_of-self c =
    let few = c.self.invariant.breakpoints in
    let both = length-filter_both (λ other. not (other == c.args.address)) (λ other. not (not (other == c.args.address)))
    (λ other. refl) c.self.inside.breakpoints in
    let same = ap length c.remove.ensures in search (rules, arith)

pub returns : goal.returns
returns c = rw c.remove.ensures (ap (λ (s : SessionValue). without_breakpoint s c.args.address) c.self.view_is)
