-- From step to step.
use Rattle.pac_debug_session.proofs.Common.{arith, by, err_from_is_err_and, rules, sym, ◌∙◌}
use Rattle.pac_debug_session.proofs.Travelled.{underway-more, underway-met, underway-stopped, underway-refused}
use Rattle.pac_debug_session.proofs.session.Session.travel.Goals as goal

pub onwards-preserved : goal.onwards-preserved
onwards-preserved g c =
    let so_far = c.onwards.invariant in
    let under_is =
    underway-more _ _ _ c.args.sink.now _ _ so_far.under _ so_far.from_is _ _ _
    (sym c.has_met.ensures ∙ c.if-has_met.false) c.in_ok-stop.ensures in
    grind (arith, underway-more)

pub returns-then-has_met : goal.returns-then-has_met
returns-then-has_met g c =
    let so_far = c.onwards.invariant in
    rw (c.word.ensures, c.breaks.ensures) (underway-met _ _ _ _ _ _ so_far.under _ so_far.from_is
    (sym c.is_late.ensures ∙ c.if-is_late.false) (sym c.has_met.ensures ∙ c.if-has_met.true))

pub returns-in-Some : goal.returns-in-Some
returns-in-Some g c =
    let so_far = c.onwards.invariant in
    underway-stopped (by g.S.Sink.took g.S.Sink.refused) c.args.self.now c.args.motion c.args.sink.now c.onwards.self c.stride.new.self
    c.onwards.sink c.stride.new.sink c.in-Some.stop c.index-from.result so_far.from_is so_far.under
    (sym c.is_late.ensures ∙ c.if-is_late.false) (sym c.has_met.ensures ∙ c.if-has_met.false) (search rules)

pub returns-in_err-stop : goal.returns-in_err-stop
returns-in_err-stop g c =
    let so_far = c.onwards.invariant in
    rw (err_from_is_err_and c.from_residual.result c.from_residual.ensures.1).1
    (underway-refused _ _ _ _ _ _ so_far.under _ so_far.from_is _ _ (sym c.has_met.ensures ∙ c.if-has_met.false) c.in_err-stop.ensures)
