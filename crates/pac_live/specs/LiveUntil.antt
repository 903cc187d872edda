-- Believed: a live board that goes on until its time is over, or an address, an access to a watched one, a stop or a full buffer ends it.
use Rattle.std.specs.Prelude.{◌≡◌, ◌≢◌, ◌<◌, ◌≤◌, ◌⊎◌, ℕ, suc, ℤ, ◌+◌, ◌-◌, ◌==◌, not, Bool, true, false}
use Rattle.std.specs.Prelude.{List, [], ◌∷◌, ◌++◌, length, drop, slice_index, Option, None, Some, Ok, Err}
use Rattle.pac_board.specs.Access.{Access}
use Rattle.pac_board.specs.Output.{Output, Sound, sound_count, picture_count}
use Rattle.pac_board.specs.State.{BoardValue, due_outputs, latest}
use Rattle.pac_board.specs.Step.{step}
use Rattle.pac_board.specs.Stop.{Stop}
use Rattle.pac_board.specs.Trace.{by_view}
use Rattle.pac_board.specs.Calls.{way, way_at, board_after_walk, with_due}
use Rattle.pac_board.specs.Watches.{IsWatched}
use Rattle.pac_block.specs.declared.codes.HostFault.{HostFault}
use Rattle.pac_block.specs.declared.codes.HostFault.TheVariants.{WrongLength, TooLong}
use Rattle.pac_live.specs.declared.live_until.Ended.{Ended}
use Rattle.pac_live.specs.declared.live_until.Ended.TheVariants.{TimeOver, AtPlace, AtStop, BufferFull, AtAccess}
use Rattle.pac_live.specs.declared.live_until.PacUntil.{PacUntil}
use Rattle.pac_block.specs.Codes.{ran_of}
use Rattle.pac_block.specs.Host.{samples_given}
use Rattle.pac_live.specs.Live.{BoardCall}
use Rattle.pac_live.specs.LiveCodes.{until_of}

-- ---- what a host hands in: a byte for each address, or none

abbrev pub IsMap : List ℕ → Type 0
IsMap bytes = (length bytes ≡ 0) ⊎ (length bytes ≡ 65536)

-- of places: the addresses whose byte isn't 0
abbrev pub is_place : List ℕ → ℕ → Bool
is_place places address = not (slice_index places address == 0)

-- of watched addresses: 1 where writes are watched, 2 where reads are, 3 where both are; no byte where nothing is
abbrev pub watch_map : List ℕ → Option (List ℕ)
watch_map [] = None
watch_map (first ∷ others) = Some (first ∷ others)

-- ---- where steps begin; `here` is whether an address is in the set

-- Of the steps on the way to a limit that brought a board where it is now, none began at an address of the set, but the first, so that a board
-- goes on from where it is. Nor did the first, where something was due: then it is the call before that goes on.
pub record PassesPlaces (here : ℕ → Bool) (limit : ℕ) (old new : BoardValue) : Type 0 where
  pub first : due_outputs old ≢ [] → old.state.now.steps < new.state.now.steps → here old.state.now.regs.pc ≡ false
  pub others : (n : ℕ) → 0 < n → old.state.now.steps + n < new.state.now.steps → here (way_at old limit n).now.regs.pc ≡ false

-- ---- a call by which all is given: what was due, and the outputs of its steps

-- Why it ended: the time is over, and no step has brought the board to an address of the set; or one has, or what was due was given where the
-- board is at such an address; or the board stopped; or its last step made an access that is watched.
abbrev pub EndsBy : Ended → (here : ℕ → Bool) (limit end : ℕ) (stop : Option Stop) (met : Option Access) (old new : BoardValue) → Type 0
EndsBy TimeOver here limit end stop met old new =
    (stop ≡ None) × (met ≡ None) × (end ≡ limit) × (old.state.now.time < new.state.now.time → here new.state.now.regs.pc ≡ false)
    × (due_outputs old ≢ [] → here old.state.now.regs.pc ≡ false)
EndsBy AtPlace here limit end stop met old new =
    (stop ≡ None) × (met ≡ None) × (here new.state.now.regs.pc ≡ true)
    × ((old.state.now.time < new.state.now.time) ⊎ (due_outputs old ≢ []))
EndsBy AtStop here limit end stop met old new = (one : Stop) × (stop ≡ Some one)
EndsBy AtAccess here limit end stop met old new = (stop ≡ None) × ((one : Access) × (met ≡ Some one))
EndsBy BufferFull here limit end stop met old new = ⊥

-- the board went to a time, the limit or an earlier one
pub record HasComeTo (ended : Ended) (here : ℕ → Bool) (limit : ℕ) (old : BoardValue) (given : List Output) (stop : Option Stop)
    (met : Option Access) (new : BoardValue)
    : Type 0 where
  pub end : ℕ
  pub within : end ≤ limit
  pub board : new ≡ board_after_walk old (way old end)
  pub given_is : given ≡ due_outputs old ++ (way old end).outputs
  pub stop_is : stop ≡ (way old end).stop
  pub passes : PassesPlaces here end old new
  pub ends : EndsBy ended here limit end stop met old new

-- ---- a call by which the buffer is full

-- The board did so many steps, and there is no room for the next sample: one of the last step, or one that was due, where no step was done. That
-- sample and what comes after it are due. There was room for all samples of the steps before.
pub record HasFilled (here : ℕ → Bool) (limit room : ℕ) (old : BoardValue) (given : List Output) (new : BoardValue) : Type 0 where
  pub steps : ℕ
  pub board : new ≡ with_due (board_after_walk old (way_at old limit steps)) new.state.due
  pub all_steps : new.state.now.steps ≡ old.state.now.steps + steps
  pub outputs : due_outputs old ++ (way_at old limit steps).outputs ≡ given ++ due_outputs new
  pub sample : ℤ
  pub others : List Output
  pub left : due_outputs new ≡ Sound sample ∷ others
  pub full : sound_count given ≡ room
  pub before : (n : ℕ) → steps ≡ suc n → sound_count (due_outputs old ++ (way_at old limit n).outputs) ≤ room
  pub passes : PassesPlaces here limit old new

-- ---- the call

-- by why it ended
abbrev pub WentBy : Ended → (here : ℕ → Bool) (limit room : ℕ) (old : BoardValue) (given : List Output) (stop : Option Stop)
    (met : Option Access) (new : BoardValue) → Type 0
WentBy BufferFull here limit room old given stop met new = HasFilled here limit room old given new × (stop ≡ None)
WentBy ended here limit room old given stop met new = HasComeTo ended here limit old given stop met new

-- of the steps that brought a board where it is now, none but the last made an access that is watched, and the last made this one, or none
abbrev pub HasMet : (marks : Option (List ℕ)) → (old new : BoardValue) → Option Access → Type 0
HasMet marks old new met = IsWatched old.set marks (step (by_view old.set)) old.state.now new.state.now.steps met

-- the board went on up to a limit, the samples that were given are at the head of the buffer, and it is told
pub record IsGoneOn (here : ℕ → Bool) (marks : Option (List ℕ)) (limit : ℕ) (old : BoardValue) (samples : List ℤ) (new : BoardValue)
    (samples_after : List ℤ) (told : PacUntil)
    : Type 0 where
  pub ended : Ended
  pub stop : Option Stop
  pub met : Option Access
  pub given : List Output
  pub went : WentBy ended here limit (length samples) old given stop met new
  pub watched : HasMet marks old new met
  pub samples_are : samples_after ≡ samples_given given ++ drop (sound_count given) samples
  pub told_is :
      told ≡ until_of (ran_of (new.state.now.time - old.state.now.time) (sound_count given) (picture_count given) stop) ended met new

pub record HasGoneFor (ticks : ℕ) (places watched : List ℕ) (old : BoardValue) (samples : List ℤ) (new : BoardValue) (samples_after : List ℤ)
    (told : PacUntil)
    : Type 0 where
  pub set : IsMap places
  pub map : IsMap watched
  pub within : old.state.now.time + ticks ≤ latest
  pub gone : IsGoneOn (is_place places) (watch_map watched) (old.state.now.time + ticks) old samples new samples_after told

-- why it isn't done: the bytes are no set or no map, or the board's time would pass its end
abbrev pub UntilFails : (ticks : ℕ) (places watched : List ℕ) → BoardValue → HostFault → Type 0
UntilFails ticks places watched board WrongLength = IsMap places × IsMap watched → ⊥
UntilFails ticks places watched board TooLong = IsMap places × IsMap watched × (latest < board.state.now.time + ticks)
UntilFails ticks places watched board fault = ⊥

abbrev pub Going : (ticks : ℕ) (places watched : List ℕ) (samples samples_after : List ℤ) (told told_after : PacUntil) → BoardCall
Going ticks places watched samples samples_after told told_after (Ok done) old new =
    HasGoneFor ticks places watched old samples new samples_after told_after
Going ticks places watched samples samples_after told told_after (Err fault) old new =
    UntilFails ticks places watched old fault × (new ≡ old) × (samples_after ≡ samples) × (told_after ≡ told)
