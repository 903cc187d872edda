-- To the end of the run.
use Rattle.pac_debug_session.proofs.Common.{arith, by, err_from_is_err_and, inl, inr, outcome_at, ◌∙◌}
use Rattle.pac_debug_session.proofs.Finished.{finished, finish-refused}
use Rattle.pac_debug_session.proofs.Ends.{time-near}
use Rattle.pac_debug_session.proofs.session.Session.finish.Goals as goal

pub outcome_on-requires : goal.outcome_on-requires
outcome_on-requires g c = grind (arith, time-near)

pub returns : goal.returns
returns g c =
    finished (by g.S.Sink.took g.S.Sink.refused) c.args.self.now c.args.sink.now c.offer.new.sink c.in_ok-offer.ensures.1 c.offer.new.self
    c.travel.new.self c.travel.new.sink c.in_ok-ending.ending c.outcome_on.result c.in_ok-offer.ensures.0 c.in_ok-ending.ensures
    (c.outcome_on.ensures ∙ (λ i. outcome_at (c.board.ensures.now i) (c.stop.ensures i))) c.facts.ensures

pub returns-in_err-offer : goal.returns-in_err-offer
returns-in_err-offer g c =
    let told = err_from_is_err_and c.from_residual.result c.from_residual.ensures.1 in
    rw told.1 (inl c.in_err-offer.ensures)

pub returns-in_err-ending : goal.returns-in_err-ending
returns-in_err-ending g c =
    let told = err_from_is_err_and c.from_residual-in_err-ending.result c.from_residual-in_err-ending.ensures.1 in
    rw told.1 (inr (finish-refused _ _ _ _ c.in_ok-offer.ensures.1 _ _ _ c.in_ok-offer.ensures.0 c.in_err-ending.ensures))
