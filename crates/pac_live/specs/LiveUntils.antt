-- For proofs: the parts of a call that goes on until something ends it.
use Rattle.std.specs.Prelude.{◌≡◌, ◌<◌, ◌≤◌, ℕ, ◌+◌, true, false, List, length, Option, None, Some, Result, Ok, Err}
use Rattle.pac_board.specs.Access.{Access}
use Rattle.pac_board.specs.Output.{Output}
use Rattle.pac_board.specs.Roads.{HasGoneUntil}
use Rattle.pac_board.specs.RoadsProofs.{BoardPasses, BoardWatched}
use Rattle.pac_board.specs.Sinks.{TookAll}
use Rattle.pac_board.specs.SinksLaws.{by}
use Rattle.pac_board.specs.State.{BoardValue, latest}
use Rattle.pac_board.specs.Stop.{Stop}
use Rattle.pac_board.specs.Stops.{is_stop}
use Rattle.pac_board.specs.Turns.{IsWayRefused}
use Rattle.pac_block.specs.declared.codes.HostFault.{HostFault}
use Rattle.pac_block.specs.declared.codes.HostFault.TheVariants.{WrongLength, TooLong}
use Rattle.pac_live.specs.declared.live_until.Ended.{Ended}
use Rattle.pac_live.specs.declared.live_until.Ended.TheVariants.{TimeOver, AtPlace, AtStop, BufferFull, AtAccess}
use Rattle.pac_block.specs.declared.sounds.Sounds.{Sounds}
use Rattle.pac_live.specs.LiveUntil.{IsMap, is_place, WentBy, HasMet}
use Rattle.pac_block.specs.Sounding.{sounding_took, sounding_refused}

-- the addresses of a set that is handed in
abbrev pub OpensSet : List ℕ → Result (Option (List ℕ)) HostFault → Type 0
OpensSet places (Ok stops) = IsMap places × ((address : ℕ) → is_stop stops address ≡ is_place places address)
OpensSet places (Err fault) = (IsMap places → ⊥) × (fault ≡ WrongLength)

-- whether a map is handed in
abbrev pub IsMapOrFault : List ℕ → Result (Unit {0}) HostFault → Type 0
IsMapOrFault bytes (Ok done) = IsMap bytes
IsMapOrFault bytes (Err fault) = (IsMap bytes → ⊥) × (fault ≡ WrongLength)

-- the time at which so many T-states are over
abbrev pub HasLimit : (time ticks : ℕ) → Result ℕ HostFault → Type 0
HasLimit time ticks (Ok limit) = (limit ≡ time + ticks) × (limit ≤ latest)
HasLimit time ticks (Err fault) = (latest < time + ticks) × (fault ≡ TooLong)

-- how a board with nothing due goes on, by why it ends
abbrev pub WalksBy : Ended → Option (List ℕ) → (limit : ℕ) (old : BoardValue) → Sounds → Option Stop → Option Access → (new : BoardValue)
    → Sounds → Type 0
WalksBy TimeOver stops limit old sink stop met new later =
    HasGoneUntil sounding_took old limit stops met sink stop new later × (stop ≡ None) × (met ≡ None)
    × (old.state.now.time < new.state.now.time → is_stop stops new.state.now.regs.pc ≡ false)
WalksBy AtPlace stops limit old sink stop met new later =
    HasGoneUntil sounding_took old limit stops met sink stop new later × (stop ≡ None) × (met ≡ None)
    × (old.state.now.time < new.state.now.time) × (is_stop stops new.state.now.regs.pc ≡ true)
WalksBy AtStop stops limit old sink stop met new later =
    HasGoneUntil sounding_took old limit stops met sink stop new later × ((one : Stop) × (stop ≡ Some one))
WalksBy AtAccess stops limit old sink stop met new later =
    HasGoneUntil sounding_took old limit stops met sink stop new later × (stop ≡ None) × ((one : Access) × (met ≡ Some one))
WalksBy BufferFull stops limit old sink stop met new later =
    IsWayRefused (by sounding_took sounding_refused) old limit sink new later × (stop ≡ None)

pub record WalksOn (stops marks : Option (List ℕ)) (limit : ℕ) (old : BoardValue) (sink : Sounds) (ended : Ended) (stop : Option Stop)
    (met : Option Access) (new : BoardValue) (later : Sounds)
    : Type 0 where
  pub passes : BoardPasses stops old new
  pub watched : BoardWatched marks old new met
  pub walks : WalksBy ended stops limit old sink stop met new later

-- how a board goes on, and what the sink took
pub record IsGone (stops marks : Option (List ℕ)) (limit : ℕ) (old : BoardValue) (sink : Sounds) (ended : Ended) (stop : Option Stop)
    (met : Option Access) (new : BoardValue) (later : Sounds)
    : Type 0 where
  pub given : List Output
  pub took : TookAll sounding_took sink given later
  pub went : WentBy ended (is_stop stops) limit (length sink.samples.now) old given stop met new
  pub watched : HasMet marks old new met
