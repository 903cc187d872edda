-- What stood before the steps stands after them, and what they gave was offered.
use Rattle.pac_debug_session.proofs.Common.{AreSlotsRight, IsStanding, Parts, SessionValue, ap, arith, by, heeded_if, kept_of, IsLeapLimit}
use Rattle.pac_debug_session.proofs.Common.{max, nat_lt, nothing_due, ring_after_index, rules, session_view, stop_unless, subst, sym, ◌∙◌}
use Rattle.pac_debug_session.proofs.Common.{◌≡◌}
use Rattle.pac_debug_session.proofs.Leapt.{session_on, taken-up, leaps-so, stands-then, set-then, asked-then}
use Rattle.pac_debug_session.proofs.Steppings.{IsLeft, left, right-later}
use Rattle.pac_debug_session.proofs.session.Session.leap.Goals as goal

pub invariant_of-self : goal.invariant_of-self
invariant_of-self g c =
    let inside = c.self.inside in
    let old = session_view inside in
    let right = c.self.invariant in
    let stands = right.standing in
    let board = inside.board.value in
    let new = c.go-played.new.board in
    let to = by g.S.Sink.took g.S.Sink.refused in
    let nothing : board.state.due ≡ nothing_due = ap (λ (s : SessionValue). s.due) c.self.view_is ∙ c.requires.nothing in
    let end_is : c.steps-now.result ≡ new.state.now.steps = search rules in
    let limit_is = subst (λ (s : SessionValue). IsLeapLimit s c.args.most c.leap_limit-limit.result) (sym c.self.view_is)
    c.leap_limit-limit.ensures in
    let gone = taken-up to inside right c.deref_mut.result.now new _ _ _ _ _ _ c.deref_mut.ensures.value c.go-played.ensures in
    let far : max inside.furthest new.state.now.steps ≡ c.max-self-inside.result
    = sym (c.max-self-inside.ensures ∙ ap (λ n. max inside.furthest n) end_is) in
    let ring : ring_after_index board.state.now.steps inside.checkpoints (kept_of board inside.history) ≡ c.take_at.new.checkpoints
    = search rules in
    let kept : IsLeft old.setting old.index old.furthest c.take_at.new.checkpoints =
    subst (IsLeft old.setting old.index old.furthest) ring
    (left old.setting board inside.history old.furthest inside.checkpoints stands nothing right.unasked) in
    record {
      limit = right.limit;
      short = right.short;
      unasked = grind (arith, asked-then);
      standing =
          subst (λ n. IsStanding (session_on old new).setting new.state.now c.go-played.new.self n c.take_at.new.checkpoints) far
          (stands-then old stands.within stands.goes _ _ _ _ _ _ _ _ gone _ limit_is _ kept);
      slots =
          subst (λ (set : Parts). AreSlotsRight (record old.setting { set = set }) c.max-self-inside.result inside.slots.items)
          (grind (arith, set-then))
          (right-later old.setting inside.furthest c.max-self-inside.result inside.slots.items (omega arith) right.slots);
      breakpoints = right.breakpoints;
    }

pub returns : goal.returns
returns g c =
    let inside = c.self.inside in
    let old = session_view inside in
    let right = c.self.invariant in
    let stands = right.standing in
    let board = inside.board.value in
    let new = c.go-played.new.board in
    let to = by g.S.Sink.took g.S.Sink.refused in
    let index_is : c.steps-index.result ≡ old.index = search rules in
    let end_is : c.steps-now.result ≡ new.state.now.steps = search rules in
    let limit_is = subst (λ (s : SessionValue). IsLeapLimit s c.args.most c.leap_limit-limit.result) (sym c.self.view_is)
    c.leap_limit-limit.ensures in
    let gone = taken-up to inside right c.deref_mut.result.now new _ _ _ _ _ _ c.deref_mut.ensures.value c.go-played.ensures in
    let far : max inside.furthest new.state.now.steps ≡ c.max-self-inside.result
    = sym (c.max-self-inside.ensures ∙ ap (λ n. max inside.furthest n) end_is) in
    let heeded = heeded_if c.args.heeds old.breakpoints in
    let moved : c.unless_moved.result ≡ stop_unless (nat_lt old.index new.state.now.steps) c.go-played.result
    = c.unless_moved.ensures ∙ (λ i. stop_unless (nat_lt (index_is i) (end_is i)) c.go-played.result) in
    let leaps = leaps-so old stands.within stands.goes to _ _ _ _ _ _ _ limit_is _ c.stops-stops.ensures _ gone in grind (arith, session_on)
