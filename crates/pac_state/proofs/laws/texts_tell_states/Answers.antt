use Rattle.pac_state.proofs.Common.{ap, state_in, sym, ◌∙◌}
use Rattle.pac_state.proofs.Again.{state-again}

pub returns : Rattle.pac_state.proofs.laws.texts_tell_states.Goals.returns
returns c version set one other is_one is_other same =
    sym (state-again version set one is_one) ∙ (ap state_in same ∙ state-again version set other is_other)
