-- For proofs: what proofs say of the definitions of Roads.antt.
use Rattle.std.specs.Prelude.{ℕ, List, Option}
use Rattle.pac_board_model.specs.Step.{step}
use Rattle.pac_board_model.specs.Trace.{by_view}
use Rattle.pac_machine.specs.StopsProofs.{PassesBy}
use Rattle.pac_machine.specs.Watches.{IsWatched}
use Rattle.pac_machine.specs.declared.watch.Access.{Access}
use Rattle.pac_board.specs.State.{BoardValue}

-- no step of a board but the first began where it was to stop
abbrev pub BoardPasses : (stops : Option (List ℕ)) → (old new : BoardValue) → Type 0
BoardPasses stops old new = PassesBy (step (by_view old.set)) stops old.state.now new.state.now.steps

-- no step of a board but the last did something at an address that is watched, and the last did this, or nothing
abbrev pub BoardWatched : (marks : Option (List ℕ)) → (old new : BoardValue) → Option Access → Type 0
BoardWatched marks old new met = IsWatched old.set marks (step (by_view old.set)) old.state.now new.state.now.steps met
