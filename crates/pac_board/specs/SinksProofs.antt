-- For proofs: what proofs say of the definitions of Sinks.antt.
use Rattle.pac_board_model.specs.Output.{Output}
use Rattle.std.specs.Borrow.{MutBor}
use Rattle.std.specs.Prelude.{◌≡◌}

-- What a sink that is lent took, or its refusal. The reference stays the same one, so what the last offer leaves is what the sink's
-- owner has when the loan ends.
abbrev pub lent_sink_took : {S : Type 0} → (S → Output → S → Type 0) → MutBor S → Output → MutBor S → Type 0
lent_sink_took took old output new = (new.ghost_name ≡ old.ghost_name) × took old.now output new.now

abbrev pub lent_sink_refused : {S : Type 0} → (S → Output → S → Type 0) → MutBor S → Output → MutBor S → Type 0
lent_sink_refused refused old output new = (new.ghost_name ≡ old.ghost_name) × refused old.now output new.now
