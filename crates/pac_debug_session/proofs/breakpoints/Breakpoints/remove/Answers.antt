-- The other addresses stay, and stay marked.
use Rattle.pac_debug_session.proofs.Common.{ap, filter, filter-from_retain, not, rules, slice_set, ◌==◌, ◌∙◌, ◌≡◌}
use Rattle.pac_debug_session.proofs.Marked.{one-unmarked}
use Rattle.pac_debug_session.proofs.breakpoints.Breakpoints.remove.Goals as goal

pub invariant_of-self : goal.invariant_of-self
invariant_of-self c =
    let kept : c.retain.new.self.items ≡ filter (λ other. not (other == c.args.address)) c.self.inside.list.items
    = filter-from_retain _ (λ other. not (other == c.args.address)) _ (λ x b f' y k. search rules) _ _ c.retain.ensures.filtered in
    let marks : slice_set c.deref_mut.result.now c.from.result 0 ≡ slice_set c.self.inside.marks.value c.args.address 0
    = λ i. slice_set (c.deref_mut.ensures.value i) (c.from.ensures i) 0 in
    rw (kept, marks) (one-unmarked c.self.inside.marks.value c.self.inside.list.items c.args.address (search rules) c.self.invariant)

pub returns : goal.returns
returns c =
    filter-from_retain _ (λ other. not (other == c.args.address)) _ (λ x b f' y k. search rules) _ _ c.retain.ensures.filtered
    ∙ ap (filter (λ other. not (other == c.args.address))) c.self.view_is
