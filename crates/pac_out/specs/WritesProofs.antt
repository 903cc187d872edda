-- For proofs: what proofs say of the definitions of Writes.antt.
use Rattle.std.specs.Prelude.{List, ℕ, ◌≡◌}
use Rattle.std.specs.Borrow.{MutBor}

-- What a writer that is lent took, or its refusal. The reference stays the same one, so what the last write leaves is what
-- the writer's owner has when the loan ends.
abbrev pub lent_took : {W : Type 0} → (W → List ℕ → W → Type 0) → MutBor W → List ℕ → MutBor W → Type 0
lent_took took old bytes new = (new.ghost_name ≡ old.ghost_name) × took old.now bytes new.now

abbrev pub lent_refused : {W : Type 0} → (W → W → Type 0) → MutBor W → MutBor W → Type 0
lent_refused refused old new = (new.ghost_name ≡ old.ghost_name) × refused old.now new.now
