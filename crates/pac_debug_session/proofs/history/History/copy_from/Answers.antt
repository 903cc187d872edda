use Rattle.pac_debug_session.proofs.Common.{ap, is_some, told_of, ◌∙◌}
use Rattle.pac_debug_session.proofs.Histories.{over-there}
use Rattle.pac_debug_session.proofs.history.History.copy_from.Goals as goal

pub invariant_of-self : goal.invariant_of-self
invariant_of-self c =
    let all = over-there c.self.inside.told c.other.inside.told c.self.invariant c.other.invariant in
    ap is_some (c.copy_from.ensures ∙ all) ∙ c.other.invariant

pub returns : goal.returns
returns c =
    let all = over-there c.self.inside.told c.other.inside.told c.self.invariant c.other.invariant in
    ap told_of (c.copy_from.ensures ∙ all) ∙ c.other.view_is
