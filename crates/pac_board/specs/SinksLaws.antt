-- Law: what is proved of the definitions of Sinks.antt.
use Rattle.pac_picture.specs.StateLaws as state_laws
use Rattle.pac_board_model.specs.Output.{Image, Output}
use Rattle.std.specs.Prelude.{Result, Ok, Err, List, ◌≡◌, ◌∷◌, ◌++◌}
use Rattle.pac_board.specs.Sinks.{TookAll}

-- a picture as it is offered
abbrev pub offered_image : state_laws.PictureState → Image
offered_image picture = record { lines = picture.lines; palette = picture.palette }

-- what a sink says of itself: its two relations
pub record Giving (S : Type 0) : Type 1 where
  pub took : S → Output → S → Type 0
  pub refused : S → Output → S → Type 0

abbrev pub by : {S : Type 0} → (took refused : S → Output → S → Type 0) → Giving S
by took refused = record { took = took; refused = refused }

-- one offer, by its answer
abbrev pub IsOffer : {S A E : Type 0} → Giving S → S → Output → Result A E → S → Type 0
IsOffer to old output (Ok done) new = to.took old output new
IsOffer to old output (Err refusal) new = to.refused old output new

-- the sink took some outputs, and refused the first of those that are left
pub record RefusesAt {S : Type 0} (to : Giving S) (old : S) (taken left : List Output) (new : S) : Type 0 where
  pub asked : S
  pub before : TookAll to.took old taken asked
  pub first : Output
  pub rest : List Output
  pub left_is : left ≡ first ∷ rest
  pub refusal : to.refused asked first new

-- Outputs were offered, one after another, and the sink refused one: it took those before, and that one and those after it are left.
pub record Cut {S : Type 0} (to : Giving S) (old : S) (outputs left : List Output) (new : S) : Type 0 where
  pub taken : List Output
  pub parts : outputs ≡ taken ++ left
  pub refuses : RefusesAt to old taken left new
