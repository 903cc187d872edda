-- What was due, what was done before, and then the way on of a course.
use Rattle.pac_debug_session.proofs.Common.{BoardValue, ap, by, course_of, err_from_is_err_and, inl, inr, outcome_at, ◌∙◌}
use Rattle.pac_debug_session.proofs.PlayedOn.{stands-there, played, ends-near, held-up}
use Rattle.pac_debug_session.proofs.session.Session.play_on.Goals as goal

pub outcome_on-requires : goal.outcome_on-requires
outcome_on-requires g c =
    let there = stands-there (by g.S.Sink.took g.S.Sink.refused) c.args.self c.facts.ensures _ _ c.in_ok-offer.ensures.1 _ _ _
    c.in_ok-offer.ensures.0 c.furthest-furthest.ensures c.replay.ensures in
    rw c.board.ensures (ends-near (by g.S.Sink.took g.S.Sink.refused) _ c.facts.ensures _ _ c.in_ok-offer.ensures.1 _ _ _ _
    (c.into_course-course.ensures ∙ ap course_of there) c.in_ok-stop.ensures)

pub returns : goal.returns
returns g c =
    let there = stands-there (by g.S.Sink.took g.S.Sink.refused) c.args.self c.facts.ensures _ _ c.in_ok-offer.ensures.1 _ _ _
    c.in_ok-offer.ensures.0 c.furthest-furthest.ensures c.replay.ensures in
    let whole = played (by g.S.Sink.took g.S.Sink.refused) _ c.facts.ensures _ _ c.in_ok-offer.ensures.1 _ _ _ _ _
    (c.into_course-course.ensures ∙ ap course_of there) c.in_ok-stop.ensures
    (c.outcome_on.ensures ∙ ap (λ (board : BoardValue). outcome_at board.state.now c.in_ok-stop.stop) c.board.ensures) in
    record { left = whole.0; finishes = whole.1 }

pub returns-in_err-offer : goal.returns-in_err-offer
returns-in_err-offer g c =
    let told = err_from_is_err_and c.from_residual.result c.from_residual.ensures.1 in
    rw told.1 (record { left = c.offer.new.self; finishes = inl c.in_err-offer.ensures })

pub returns-in_err-stop : goal.returns-in_err-stop
returns-in_err-stop g c =
    let there = stands-there (by g.S.Sink.took g.S.Sink.refused) c.args.self c.facts.ensures _ _ c.in_ok-offer.ensures.1 _ _ _
    c.in_ok-offer.ensures.0 c.furthest-furthest.ensures c.replay.ensures in
    let told = err_from_is_err_and c.from_residual-in_err-stop.result c.from_residual-in_err-stop.ensures.1 in
    let stays =
    held-up _ _ c.facts.ensures _ _ c.in_ok-offer.ensures.1 _ _ _ (c.into_course-course.ensures ∙ ap course_of there)
    c.in_err-stop.ensures in
    rw told.1 (record { left = stays.0; finishes = inr stays.1 })
