-- Believed: what a sink took. A sink says by two relations between its value before and after what taking an output
-- leaves of it, `took`, and what refusing one leaves, `refused`. It needn't keep what it took, and no law binds it.
use Rattle.std.specs.Prelude.{◌≡◌, List, [], ◌∷◌}
use Rattle.pac_board_model.specs.Output.{Output}

-- something happened first, and then something else
pub record Then {S : Type 0} (first rest : S → Type 0) : Type 0 where
  pub between : S
  pub before : first between
  pub after : rest between

-- the sink took all of these outputs, one after another
abbrev pub TookAll : {S : Type 0} → (S → Output → S → Type 0) → S → List Output → S → Type 0
TookAll took old [] new = new ≡ old
TookAll took old (output ∷ more) new = Then (took old output) (λ between. TookAll took between more new)
