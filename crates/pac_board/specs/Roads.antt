-- Law: the walk of a board up to a limit, or to an earlier end: before a step that begins where it is to stop, or after one that did
-- something at an address that is watched; nothing is due before.
use Rattle.std.specs.Prelude.{◌≡◌, ◌<◌, ◌≤◌, ℕ, List, Option, None, Some, Result, Ok, Err, true}
use Rattle.pac_cpu.specs.declared.once.Stop.{Stop}
use Rattle.pac_board_model.specs.Output.{Output}
use Rattle.pac_machine.specs.Stops.{is_stop}
use Rattle.pac_machine.specs.declared.watch.Access.{Access}
use Rattle.pac_board.specs.SinksLaws.{Giving}
use Rattle.pac_board.specs.State.{BoardValue}
use Rattle.pac_board.specs.Turns.{HasGone, IsWayRefused}

-- the board stands where its next step would begin at such an address, and has met no stop
pub record IsAtStop (stops : Option (List ℕ)) (time : ℕ) (stop : Option Stop) (new : BoardValue) : Type 0 where
  pub none : stop ≡ None
  pub time_is : new.state.now.time ≡ time
  pub here : is_stop stops new.state.now.regs.pc ≡ true

-- the board stands where it is to stop, or its last step did something at an address that is watched; no stop has come
abbrev pub IsHeld : (stops : Option (List ℕ)) (time : ℕ) (met : Option Access) (stop : Option Stop) (new : BoardValue) → Type 0
IsHeld stops time None stop new = IsAtStop stops time stop new
IsHeld stops time (Some access) stop new = (stop ≡ None) × (new.state.now.time ≡ time)

-- The walk came to its end: the limit, or an earlier time, at which it is to stop. A walk with any time before it does one step at least.
pub record HasGoneUntil {S : Type 0} (took : S → Output → S → Type 0) (old : BoardValue) (limit : ℕ) (stops : Option (List ℕ))
    (met : Option Access) (sink : S) (stop : Option Stop) (new : BoardValue) (later : S)
    : Type 0 where
  pub end : ℕ
  pub within : end ≤ limit
  pub some : old.state.now.time < limit → old.state.now.time < end
  pub gone : HasGone took old end sink stop new later
  pub early : end < limit → IsHeld stops end met stop new

abbrev pub GoesUntil : {S E : Type 0} → Giving S → BoardValue → ℕ → Option (List ℕ) → Option Access → S → Result (Option Stop) E
    → BoardValue → S → Type 0
GoesUntil to old limit stops met sink (Ok stop) new later = HasGoneUntil to.took old limit stops met sink stop new later
GoesUntil to old limit stops met sink (Err refusal) new later = IsWayRefused to old limit sink new later
