-- The session stands at the checkpoint.
use Rattle.pac_debug_session.proofs.Common.{BoardValue, IsKeptAt, IsStanding, SessionValue, ap, arith, checkpoint_count, checkpoint_steps}
use Rattle.pac_debug_session.proofs.Common.{nothing_due, restored_board, session_setting, subst, ◌*◌, ◌+◌, ◌-◌, ◌∙◌, ◌≡◌}
use Rattle.pac_debug_session.proofs.Backwards.{checkpoint-there}
use Rattle.pac_debug_session.proofs.Slots.{stands-at, standing-there, right-there, value-there}
use Rattle.pac_debug_session.proofs.session.Session.rewind.Goals as goal
use Rattle.pac_debug_session.proofs.session.Session.rewind.Goals.{After-put_back}

back : (c : After-put_back) → c.put_back.new.board ≡ restored_board c.self.inside.board.value c.get-kept.result.now.snapshot
back c = c.put_back.ensures.board ∙ ap (λ (b : BoardValue). restored_board b c.get-kept.result.now.snapshot) c.deref_mut.ensures.value

at : (c : After-put_back) → IsKeptAt (session_setting c.self.inside) (checkpoint_steps * c.args.number) c.get-kept.result.now
at c =
    let ring = c.self.inside.checkpoints in
    let furthest : c.self.inside.furthest ≡ c.args.self.now.furthest = ap (λ (s : SessionValue). s.furthest) c.self.view_is in
    let place = checkpoint_count + c.args.number - ring.taken in
    let same : ring.taken + place - checkpoint_count ≡ c.args.number = omega arith in
    subst (λ n. IsKeptAt (session_setting c.self.inside) (checkpoint_steps * n) c.get-kept.result.now) same
    (checkpoint-there _ _ _ _ _ c.self.invariant.standing.checkpoints c.get-kept.ensures (omega arith))

there : (c : After-put_back) → let kept = c.get-kept.result.now in
    IsStanding (session_setting c.self.inside) kept.snapshot.now kept.history c.self.inside.furthest c.self.inside.checkpoints
    × (kept.snapshot.now.steps ≡ checkpoint_steps * c.args.number)
there c =
    let furthest : c.self.inside.furthest ≡ c.args.self.now.furthest = ap (λ (s : SessionValue). s.furthest) c.self.view_is in
    let left = c.requires.left in
    stands-at _ _ _ _ _ _ _ c.self.invariant.standing (at c) (omega arith)

pub invariant_of-self : goal.invariant_of-self
invariant_of-self c =
    let inside = c.self.inside in
    let shared = (goal.at.invariant_of-self c).After-put_back in
    record {
      limit = c.self.invariant.limit;
      short = c.self.invariant.short;
      unasked = ap (λ (b : BoardValue). b.state.asked) (back shared) ∙ (at shared).unasked;
      standing = standing-there inside.switches inside.script inside.board.value _ _ _ _ (back shared) c.put_back.ensures.history _
          (there shared).0;
      slots = right-there inside.switches inside.script inside.board.value _ _ _ _ (back shared) c.put_back.ensures.history _
          c.self.invariant.slots;
      breakpoints = c.self.invariant.breakpoints;
    }

pub returns : goal.returns
returns c =
    let inside = c.self.inside in
    let shared = (goal.at.returns c).After-put_back in
    value-there inside.switches inside.script inside.board.value _ _ _ _ (back shared) c.put_back.ensures.history _ _ _
    _ (there shared).1 (at shared).nothing
    ∙ ap (λ (s : SessionValue). record s { index = checkpoint_steps * c.args.number; due = nothing_due }) c.self.view_is
