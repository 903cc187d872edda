-- What was due is given first.
use Rattle.pac_live.proofs.Common.{BoardState, BoardValue, TookAll, [], ap, arith, due_outputs, false, is_stop, nothing_due, rules}
use Rattle.pac_live.proofs.Common.{sounding_took, sym, with_due, ◌∙◌, ◌≡◌, ◌≢◌}
use Rattle.pac_live.proofs.UntilEnds.{at-once, due-elsewhere, due-there, offer-full, something_due, went-on}
use Rattle.pac_live.proofs.live_until.go_on.Goals as goal

pub returns-then-is_err : goal.returns-then-is_err
returns-then-is_err g c = search (rules, arith, offer-full)

pub returns-then-ends_at_once : goal.returns-then-ends_at_once
returns-then-ends_at_once g c = search (rules, arith, at-once, due-there, something_due)

pub returns : goal.returns
returns g c =
    let old = c.args.board.now in
    let same : c.offer.new.self ≡ with_due old nothing_due = search rules in
    let taken : TookAll sounding_took c.args.sounds.now (due_outputs old) c.offer.new.sink = search rules in
    let is_due = c.is_some-is_due.ensures ∙ ap (λ (state : BoardState). something_due (record old { state = state })) c.fields.ensures.fields in
    let stands = ap (λ (board : BoardValue). is_stop c.args.stops.now board.state.now.regs.pc) same in
    let first : due_outputs old ≢ [] → is_stop c.args.stops.now old.state.now.regs.pc ≡ false = λ some.
    sym stands ∙ due-elsewhere old c.is_some-is_due.result _ is_due (sym c.ends_at_once.ensures ∙ c.if-ends_at_once.false) some in
    went-on c.args.stops.now (g.W.Watch.marks c.args.watch.now) c.args.limit old c.args.sounds.now c.requires.taken c.requires.pictures same
    taken first c.walk_on.ensures
