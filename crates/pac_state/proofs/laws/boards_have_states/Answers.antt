use Rattle.pac_state.proofs.Common.{BoardState, IsState, subst}

pub returns : Rattle.pac_state.proofs.laws.boards_have_states.Goals.returns
returns c = subst (λ (state : BoardState). IsState state) c.fields.ensures.fields c.in_range.ensures
