use Rattle.pac_debug_text.proofs.Common.{Leaves, drop, flat_map, past_step_text}

abbrev pub invariant-loop-step : Rattle.pac_debug_text.proofs.history.gather_history.Given.invariant-loop-step
invariant-loop-step g l =
    Leaves g.W.Out.took l.fn.pending l.fn.output (flat_map past_step_text l.steps)
    (flat_map past_step_text (drop l.step-index l.steps)) l.pending l.output
