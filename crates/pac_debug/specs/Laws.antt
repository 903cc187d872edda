-- Law: laws of what lines tell, each proved on a public function of the crate.
use Rattle.std.specs.Prelude.{◌≡◌, ◌≤◌, ℕ, List, length}
use Rattle.pac_debug_session.specs.Session.{SessionValue, most_breakpoints}
use Rattle.pac_debug.specs.Watched.{TellsAll}

-- Lines, and where a session stands before them, determine what is told and where they leave the session.
abbrev pub TellsOneThing : Type 0
TellsOneThing =
    (lines : List (List ℕ)) (old : SessionValue) (text other : List ℕ) (new last : SessionValue)
    → TellsAll lines old text new → TellsAll lines old other last → (text ≡ other) × (new ≡ last)

-- Lines tell something, wherever a session stands that has no more breakpoints than it may; and it has no more after them.
pub record TellsSomething (lines : List (List ℕ)) (old : SessionValue) : Type 0 where
  pub text : List ℕ
  pub new : SessionValue
  pub tells : TellsAll lines old text new
  pub few : length new.breakpoints ≤ most_breakpoints

abbrev pub AllLinesTell : Type 0
AllLinesTell =
    (lines : List (List ℕ)) (old : SessionValue) → length old.breakpoints ≤ most_breakpoints → TellsSomething lines old
