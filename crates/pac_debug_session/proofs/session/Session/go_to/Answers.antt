-- The session stands at what the slot keeps.
use Rattle.pac_debug_session.proofs.Common.{BoardValue, None, SessionValue, Some, ap, arith, get_or, length, map, mark_of, nothing_due}
use Rattle.pac_debug_session.proofs.Common.{refl, restored_board, session_setting, sym, ◌<◌, ◌∙◌, ◌≡◌}
use Rattle.pac_debug_session.proofs.Slots.{IsFilled, filled-at, mark-at, stands-at, standing-there, right-there, value-there}
use Rattle.pac_debug_session.proofs.Steppings.{with_board}
use Rattle.pac_debug_session.proofs.session.Session.go_to.Goals as goal
use Rattle.pac_debug_session.proofs.session.Session.go_to.Goals.{After-put_back}

back : (c : After-put_back) → c.put_back.new.board ≡ restored_board c.self.inside.board.value c.index-slot.result.now.kept.snapshot
back c =
    c.put_back.ensures.board ∙ ap (λ (b : BoardValue). restored_board b c.index-slot.result.now.kept.snapshot) c.deref_mut.ensures.value

less : (c : After-put_back) → c.args.slot < length c.self.inside.slots.items
less c = let count = c.self.invariant.slots.count in let within = c.requires.slot in omega arith

full : (c : After-put_back) → IsFilled (session_setting c.self.inside) c.self.inside.furthest c.index-slot.result.now
full c = filled-at _ _ _ _ _ (less c) c.index-slot.ensures c.self.invariant.slots c.if-not-slot.false

pub invariant_of-self : goal.invariant_of-self
invariant_of-self c =
    let inside = c.self.inside in
    let right = c.self.invariant in
    let shared = (goal.at.invariant_of-self c).After-put_back in
    let there = stands-at _ _ _ _ _ _ _ right.standing (full shared).kept (full shared).seen in
    let history = c.put_back.ensures.history in
    record {
      limit = right.limit;
      short = right.short;
      unasked = ap (λ (b : BoardValue). b.state.asked) (back shared) ∙ (full shared).kept.unasked;
      standing = standing-there inside.switches inside.script inside.board.value _ _ _ _ (back shared) history _ there.0;
      slots = right-there inside.switches inside.script inside.board.value _ _ _ _ (back shared) history _ right.slots;
      breakpoints = right.breakpoints;
    }

pub returns : goal.returns
returns c =
    let inside = c.self.inside in
    let shared = (goal.at.returns c).After-put_back in
    let index = c.index-slot.result.now.kept.snapshot.now.steps in
    let marks = map mark_of inside.slots.items in
    let found : get_or c.args.self.now.slots c.args.slot None ≡ Some index
    = ap (λ (s : SessionValue). get_or s.slots c.args.slot None) (sym c.self.view_is)
    ∙ mark-at (session_setting inside) inside.furthest inside.slots.items c.args.slot _ (less shared) c.index-slot.ensures
    ∙ (full shared).mark in
    let value : with_board inside.switches inside.script c.put_back.new.board inside.furthest inside.breakpoints marks inside.replayed
    ≡ record c.args.self.now { index = index }
    = value-there inside.switches inside.script inside.board.value _ _ _ _ (back shared) c.put_back.ensures.history _ _ _ _ refl
    (full shared).kept.nothing
    ∙ ap (λ (s : SessionValue). record s { index = index; due = nothing_due }) c.self.view_is
    ∙ ap (λ due. record c.args.self.now { index = index; due = due }) (sym c.requires.nothing) in
    rw found value
