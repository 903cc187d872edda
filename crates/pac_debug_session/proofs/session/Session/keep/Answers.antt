-- The slot keeps what stands.
use Rattle.pac_debug_session.proofs.Common.{BoardValue, SessionValue, ap, kept_of, map-set, mark_of, nothing_due, session_setting}
use Rattle.pac_debug_session.proofs.Common.{session_with_slot, true, ◌∙◌, ◌≡◌}
use Rattle.pac_debug_session.proofs.Slots.{right-set}
use Rattle.pac_debug_session.proofs.session.Session.keep.Goals as goal

pub invariant_of-self : goal.invariant_of-self
invariant_of-self c =
    let inside = c.self.inside in
    let board = inside.board.value in
    let stands = c.self.invariant.standing in
    let nothing : board.state.due ≡ nothing_due = ap (λ (s : SessionValue). s.due) c.self.view_is ∙ c.requires.nothing in
    let kept : c.write.new.self ≡ kept_of board inside.history
    = c.write.ensures ∙ ap (λ (b : BoardValue). kept_of b inside.history) c.deref.ensures in
    record {
      limit = c.self.invariant.limit;
      short = c.self.invariant.short;
      unasked = c.self.invariant.unasked;
      standing = stands;
      slots =
          rw kept (right-set (session_setting inside) inside.furthest inside.slots.items c.args.slot
          (record { kept = kept_of board inside.history; filled = true }) c.self.invariant.slots (λ filled. record {
            now = stands.now_is;
            nothing = nothing;
            unasked = c.self.invariant.unasked;
            history = stands.history_is;
          }) stands.within);
      breakpoints = c.self.invariant.breakpoints;
    }

pub returns : goal.returns
returns c =
    let inside = c.self.inside in
    let board = inside.board.value in
    let kept : c.write.new.self ≡ kept_of board inside.history
    = c.write.ensures ∙ ap (λ (b : BoardValue). kept_of b inside.history) c.deref.ensures in
    rw (kept, map-set mark_of inside.slots.items c.args.slot) (ap (λ (s : SessionValue). session_with_slot s c.args.slot) c.self.view_is)
