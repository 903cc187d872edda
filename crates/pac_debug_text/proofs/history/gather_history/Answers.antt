use Rattle.pac_debug_text.proofs.Common.{Leaves, List, ap, arith, drop, drop_more, err_from_is_err_and, flat_map, leaves-less}
use Rattle.pac_debug_text.proofs.Common.{leaves-refused, past_step_text, subst, ℕ, ◌+◌}
use Rattle.pac_debug_text.proofs.history.gather_history.Goals as goal

pub returns-in_err-gather_past_step : goal.returns-in_err-gather_past_step
returns-in_err-gather_past_step g c =
    let steps = c.args.steps.now in
    let i = c.loop-step.step-index in
    let first = ap (flat_map past_step_text) (drop_more steps i _ c.loop-step-test.true) in
    let leaves = subst (λ (rest : List ℕ). Leaves g.W.Out.took c.args.pending.now c.args.output.now (flat_map past_step_text steps) rest
    c.loop-step.pending c.loop-step.output) first c.loop-step.invariant in
    let p = err_from_is_err_and c.from_residual.result c.from_residual.ensures.1 in
    rw (p.1, p.2) (leaves-refused _ (flat_map past_step_text (drop (i + 1) steps)) leaves c.in_err-gather_past_step.ensures)

pub loop-step-preserved : goal.loop-step-preserved
loop-step-preserved g c = grind (arith, Leaves, drop_more, leaves-less)
