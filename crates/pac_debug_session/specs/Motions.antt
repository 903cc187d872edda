-- Believed: how a session moves: forwards to where a motion rests, back by so many steps, and to a slot.
use Rattle.std.specs.Prelude.{◌≡◌, ◌<◌, ◌≤◌, ℕ, ◌+◌, ◌-◌, ◌*◌, ◌/◌, ◌%◌, Bool, true, false, ◌&&◌, ◌||◌, not, nat_le, nat_lt, max}
use Rattle.std.specs.Prelude.{if◌then◌else◌}
use Rattle.std.specs.Prelude.{Some, ◌⊎◌, slice_set}
use Rattle.pac_board_course.specs.Stop.{Stop}
use Rattle.pac_board_course.specs.Output.{Output}
use Rattle.pac_board_course.specs.Sinks.{TookAll}
use Rattle.pac_board_course.specs.State.{nothing_due, steps_counted}
use Rattle.pac_debug_session.specs.declared.motion.Motion.{Motion}
use Rattle.pac_debug_session.specs.declared.motion.Motion.TheVariants.{Steps, Continue, Frames, ToEnd}
use Rattle.pac_debug_session.specs.declared.motion.MotionEnd.{MotionEnd}
use Rattle.pac_debug_session.specs.declared.motion.MotionEnd.TheVariants.{AtStop, AtEnd, AtBreakpoint, AtFrame, AtStep}
use Rattle.pac_debug_session.specs.Running.{is_late, stop_at, goes_at, blanks_at, outputs_between}
use Rattle.pac_debug_session.specs.Running.{IsLeast}
use Rattle.pac_debug_session.specs.Session.{SessionValue, breaks_at}

-- ---- where a motion rests

-- whether a motion that began at one index has done at another what it is for
abbrev pub is_done : SessionValue → Motion → (from index : ℕ) → Bool
is_done s (Steps count) from index = nat_le (from + count) index
is_done s Continue from index = breaks_at s index
is_done s (Frames count) from index = breaks_at s index || nat_le (blanks_at s.setting from + count) (blanks_at s.setting index)
is_done s ToEnd from index = false

-- whether a motion has done what it is for, and one step at least
abbrev pub has_met : SessionValue → Motion → (from index : ℕ) → Bool
has_met s motion from index = nat_lt from index && is_done s motion from index

-- a motion rests where it has done what it is for, and where the run goes no further
abbrev pub rests : SessionValue → Motion → (from index : ℕ) → Bool
rests s motion from index = has_met s motion from index || not (goes_at s.setting index)

-- why a motion rests that has done what it is for
abbrev pub motion_ending : Motion → (breaks : Bool) → MotionEnd
motion_ending (Steps count) breaks = AtStep
motion_ending Continue breaks = AtBreakpoint
motion_ending (Frames count) breaks = if breaks then AtBreakpoint else AtFrame
motion_ending ToEnd breaks = AtEnd

-- Why a motion rests: the run is over, or it has done what it is for, or a step was tried and met a stop, in this order.
pub record IsDone (s : SessionValue) (motion : Motion) (from index : ℕ) (why : MotionEnd) : Type 0 where
  pub early : is_late s.setting index ≡ false
  pub met : has_met s motion from index ≡ true
  pub word : why ≡ motion_ending motion (breaks_at s index)

pub record IsStopped (s : SessionValue) (motion : Motion) (from index : ℕ) (stop : Stop) : Type 0 where
  pub early : is_late s.setting index ≡ false
  pub unmet : has_met s motion from index ≡ false
  pub stop_is : stop_at s.setting index ≡ Some stop

abbrev pub RestsBy : SessionValue → Motion → (from index : ℕ) → MotionEnd → Type 0
RestsBy s motion from index AtEnd = is_late s.setting index ≡ true
RestsBy s motion from index (AtStop stop) = IsStopped s motion from index stop
RestsBy s motion from index why = IsDone s motion from index why

-- ---- forwards

-- the session at a later index, to which all outputs were taken
abbrev pub moved_to : SessionValue → ℕ → SessionValue
moved_to s index =
    record s { index = index; furthest = max s.furthest index; due = nothing_due; made = steps_counted s.made (index - s.index) }

-- The session came to where the motion rests. The sink took what the run gives from the old furthest index to the new one.
pub record HasTravelled {S : Type 0} (took : S → Output → S → Type 0) (old : SessionValue) (motion : Motion) (sink : S) (why : MotionEnd)
    (new : SessionValue) (later : S)
    : Type 0 where
  pub rest : IsLeast (rests old motion old.index) old.index new.index
  pub why_is : RestsBy old motion old.index new.index why
  pub session : new ≡ moved_to old new.index
  pub sink_is : TookAll took sink (outputs_between old.setting old.furthest new.furthest) later

-- ---- one step forwards

-- ---- to the end

-- ---- back

-- a checkpoint is kept each 4,096 steps, and the last 16 of them are (this profile)
abbrev pub checkpoint_steps : ℕ
checkpoint_steps = 4096

abbrev pub checkpoint_count : ℕ
checkpoint_count = 16

-- the oldest index to which a session goes back, by the furthest that it has been at
abbrev pub oldest_index : ℕ → ℕ
oldest_index furthest = checkpoint_steps * (furthest / checkpoint_steps - (checkpoint_count - 1))

-- The session back at an index: the board did the steps from the checkpoint before it again.
abbrev pub back_to : SessionValue → ℕ → SessionValue
back_to s index = record s {
  index = index;
  made = steps_counted s.made (index % checkpoint_steps);
  replayed = index % checkpoint_steps;
}

pub record IsBack (old : SessionValue) (count : ℕ) (new : SessionValue) : Type 0 where
  pub enough : count ≤ old.index
  pub kept : oldest_index old.furthest ≤ old.index - count
  pub session : new ≡ back_to old (old.index - count)

pub record IsTooOld (old : SessionValue) (count oldest : ℕ) (new : SessionValue) : Type 0 where
  pub older : (old.index < count) ⊎ (old.index - count < oldest_index old.furthest)
  pub oldest_is : oldest ≡ oldest_index old.furthest
  pub session : new ≡ old

-- ---- slots

-- the slots with one of them filled
abbrev pub session_with_slot : SessionValue → (slot : ℕ) → SessionValue
session_with_slot s slot = record s { slots = slice_set s.slots slot (Some s.index) }
