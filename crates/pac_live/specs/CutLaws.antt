-- Law: time on a live board that is cut anyhow, proved on a public function of the crate.
use Rattle.std.specs.Prelude.{◌≡◌, ◌<◌, ◌≤◌, ⊤, ℕ, ℤ, ◌+◌, List, [], ◌∷◌, ◌++◌, take}
use Rattle.pac_board.specs.State.{BoardValue, time_of}
use Rattle.pac_live.specs.declared.live_until.PacUntil.{PacUntil}
use Rattle.pac_block.specs.declared.ran.PacRan.{PacRan}
use Rattle.pac_live.specs.LiveStep.{HasStepped}
use Rattle.pac_live.specs.LiveTime.{HasRunOn}
use Rattle.pac_live.specs.LiveUntil.{HasGoneFor}

-- the calls by which time goes by
pub data TimeCall : Type 0 where
  GoUntil : (ticks : ℕ) → (places watched : List ℕ) → TimeCall
  MakeStep : TimeCall
  PassTime : (microseconds : ℕ) → TimeCall

-- a call was done, each with a buffer of its own, and gave these samples
abbrev pub GivesInTime : TimeCall → (old : BoardValue) (given : List ℤ) (new : BoardValue) → Type 0
GivesInTime (GoUntil ticks places watched) old given new =
    (samples : List ℤ) × (samples_after : List ℤ) × (told : PacUntil)
    × HasGoneFor ticks places watched old samples new samples_after told × (given ≡ take told.samples samples_after)
GivesInTime MakeStep old given new =
    (samples : List ℤ) × (samples_after : List ℤ) × (ran : PacRan)
    × HasStepped old samples new samples_after ran × (given ≡ take ran.samples samples_after)
GivesInTime (PassTime microseconds) old given new =
    (samples : List ℤ) × (samples_after : List ℤ) × (ran : PacRan)
    × HasRunOn old microseconds samples new samples_after ran × (given ≡ take ran.samples samples_after)

-- the microseconds of some calls in all
abbrev pub asked_by : List TimeCall → ℕ
asked_by [] = 0
asked_by (PassTime microseconds ∷ calls) = microseconds + asked_by calls
asked_by (call ∷ calls) = asked_by calls

-- a call doesn't reach past the time at which so many microseconds more are over
abbrev pub IsWithinTime : TimeCall → BoardValue → (microseconds : ℕ) → Type 0
IsWithinTime (GoUntil ticks places watched) board microseconds = board.state.now.time + ticks ≤ time_of (board.state.asked + microseconds)
IsWithinTime MakeStep board microseconds = board.state.now.time < time_of (board.state.asked + microseconds)
IsWithinTime (PassTime more) board microseconds = ⊤

-- some calls were done, one after another, before a last one for so many microseconds, and gave these samples
abbrev pub GiveInTime : List TimeCall → (last : ℕ) (old : BoardValue) (given : List ℤ) (new : BoardValue) → Type 0
GiveInTime [] last old given new = (new ≡ old) × (given ≡ [])
GiveInTime (call ∷ calls) last old given new =
    (between : BoardValue) × (first : List ℤ) × (more : List ℤ) × GivesInTime call old first between
    × IsWithinTime call old (asked_by (call ∷ calls) + last) × GiveInTime calls last between more new × (given ≡ first ++ more)

-- the board is the one that one call leaves, and the samples, one after another, are those of that call
pub record IsOneTime (given last whole : List ℤ) (new once : BoardValue) : Type 0 where
  pub set : new.set ≡ once.set
  pub state : new.state ≡ once.state
  pub samples : given ++ last ≡ whole

-- However time is cut by steps, by addresses, by accesses, by full buffers and by microseconds, it is the time of one call for as many microseconds.
abbrev pub AnyCutsAreOneTime : Type 0
AnyCutsAreOneTime =
    (calls : List TimeCall) (last : ℕ) (old between new once : BoardValue) (given buffer last_samples wide whole_samples : List ℤ)
    (ran whole : PacRan) → GiveInTime calls last old given between → HasRunOn between last buffer new last_samples ran
    → HasRunOn old (asked_by calls + last) wide once whole_samples whole
    → IsOneTime given (take ran.samples last_samples) (take whole.samples whole_samples) new once
