-- For proofs: steps forwards in one go, which leave nothing to look at between them.
use Rattle.std.specs.Prelude.{◌≡◌, ◌<◌, ◌≤◌, ℕ, ◌+◌, ◌-◌, ◌*◌, ◌%◌, ◌==◌, min, Bool}
use Rattle.std.specs.Prelude.{true, false, if◌then◌else◌, List, Option, None, Some, Result, Ok, Err}
use Rattle.std.specs.List.{list_any}
use mathlib.Core.List.{IsPrefix}
use Rattle.pac_board_course.specs.Output.{Output}
use Rattle.pac_board_course.specs.SinksLaws.{Giving, Cut}
use Rattle.pac_board_course.specs.Sinks.{TookAll}
use Rattle.pac_board_course.specs.Stop.{Stop}
use Rattle.pac_board_course.specs.IdleLoops.{IsIdleLimit}
use Rattle.pac_debug_session.specs.Breakpoints.{heeded_if}
use Rattle.pac_debug_session.specs.declared.motion.Motion.{Motion}
use Rattle.pac_debug_session.specs.declared.motion.Motion.TheVariants.{Steps, Continue, Frames, ToEnd}
use Rattle.pac_debug_session.specs.Motions.{moved_to, checkpoint_steps}
use Rattle.pac_debug_session.specs.Running.{Setting, now_at, stop_at, goes_at, blanks_at, outputs_between}
use Rattle.pac_debug_session.specs.Session.{SessionValue}
use Rattle.pac_debug_session.specs.SessionLaws.{session_due_outputs}

-- Steps at none of which anything that a motion looks for is met: the run goes on at each of them, none but the first begins on a
-- breakpoint that is heeded, and no frame ends before the last of them has begun.
pub record MeetNothing (setting : Setting) (heeded : List ℕ) (from until : ℕ) : Type 0 where
  pub goes : (index : ℕ) → from ≤ index → index < until → goes_at setting index ≡ true
  pub breaks : (index : ℕ) → from < index → index < until
      → list_any (λ address. address == (now_at setting index).regs.pc) heeded ≡ false
  pub frame : (index : ℕ) → from ≤ index → index < until → blanks_at setting index ≡ blanks_at setting from

-- How many steps there may be in one go: so many at most, and none past the next checkpoint's index.
abbrev pub leap_most : SessionValue → (most : ℕ) → ℕ
leap_most s most = min most (checkpoint_steps - s.index % checkpoint_steps)

-- No more of them begin before this time: each takes 4 T-states or more, or they go around an idle loop.
pub data IsLeapLimit (s : SessionValue) (most limit : ℕ) : Type 0 where
  ByTime : limit ≡ (now_at s.setting s.index).time + 4 * leap_most s most → IsLeapLimit s most limit
  ByTurns : IsIdleLimit (record { set = s.setting.set; now = now_at s.setting s.index }) (leap_most s most) limit
      → IsLeapLimit s most limit

-- whether a motion heeds breakpoints
abbrev pub heeds : Motion → Bool
heeds (Steps count) = false
heeds Continue = true
heeds (Frames count) = true
heeds ToEnd = false

abbrev pub heeded_by : Motion → (breakpoints : List ℕ) → List ℕ
heeded_by motion breakpoints = heeded_if (heeds motion) breakpoints

-- How many steps a motion makes at most in one stride, so that it meets nothing within it: one where it begins, and of counted steps those
-- that are left.
abbrev pub steps_left : Motion → (gone : ℕ) → ℕ
steps_left (Steps count) gone = count - gone
steps_left motion gone = checkpoint_steps

abbrev pub longest_stride : Motion → (gone : ℕ) → ℕ
longest_stride motion gone = if gone == 0 then 1 else steps_left motion gone

-- ---- steps in one go

-- up to an index, so many at most
pub record IsLeap (old : SessionValue) (heeded : List ℕ) (most until : ℕ) : Type 0 where
  pub after : old.index ≤ until
  pub few : until ≤ old.index + most
  pub unmet : MeetNothing old.setting heeded old.index until

-- why they ended: one was done at least, or the first one meets a stop
abbrev pub LeapEnds : SessionValue → Option Stop → (until : ℕ) → Type 0
LeapEnds old None until = (old.index < until) × ((now_at old.setting old.index).time < (now_at old.setting until).time)
LeapEnds old (Some stop) until = (until ≡ old.index) × (stop_at old.setting old.index ≡ Some stop)

pub record IsLeapt (old : SessionValue) (heeded : List ℕ) (most : ℕ) (stop : Option Stop) (new : SessionValue) : Type 0 where
  pub leap : IsLeap old heeded most new.index
  pub ending : LeapEnds old stop new.index
  pub session : new ≡ moved_to old new.index

-- the sink took what the run gives between two indices
pub record HasLeapt {S : Type 0} (took : S → Output → S → Type 0) (old : SessionValue) (heeded : List ℕ) (most from to : ℕ) (sink : S)
    (stop : Option Stop) (new : SessionValue) (later : S)
    : Type 0 where
  pub leapt : IsLeapt old heeded most stop new
  pub sink_is : TookAll took sink (outputs_between old.setting from to) later

-- it refused an output of the last step
pub record IsLeapRefused {S : Type 0} (to : Giving S) (old : SessionValue) (heeded : List ℕ) (most : ℕ) (sink : S) (new : SessionValue)
    (later : S) : Type 0 where
  pub last : ℕ
  pub index : new.index ≡ last + 1
  pub after : old.index ≤ last
  pub leap : IsLeap old heeded most new.index
  pub session : new ≡ record (moved_to old new.index) { due = new.due }
  pub cut : Cut to sink (outputs_between old.setting old.index new.index) (session_due_outputs new) later
  pub of_last : IsPrefix (outputs_between old.setting old.index last) cut.taken

abbrev pub Leaps : {S E : Type 0} → Giving S → SessionValue → (heeded : List ℕ) → (most : ℕ) → S → Result (Option Stop) E → SessionValue
    → S → Type 0
Leaps to old heeded most sink (Ok stop) new later = HasLeapt to.took old heeded most old.index new.index sink stop new later
Leaps to old heeded most sink (Err refusal) new later = IsLeapRefused to old heeded most sink new later

-- a stop is told where no step was done
abbrev pub stop_unless : {E : Type 0} → (moved : Bool) → Result (Option Stop) E → Result (Option Stop) E
stop_unless moved (Ok found) = Ok (if moved then None else found)
stop_unless moved (Err refusal) = Err refusal

-- ---- on behalf of a motion that began at an index: what steps past the furthest index give goes to the sink

abbrev pub HasStrode : {S : Type 0} → (S → Output → S → Type 0) → SessionValue → Motion → (from : ℕ) → S → Option Stop → SessionValue
    → S → Type 0
HasStrode took old motion from sink stop new later =
    HasLeapt took old (heeded_by motion old.breakpoints) (longest_stride motion (old.index - from)) old.furthest new.furthest sink stop new
    later

pub record IsStrideRefused {S : Type 0} (to : Giving S) (old : SessionValue) (motion : Motion) (from : ℕ) (sink : S) (new : SessionValue)
    (later : S) : Type 0 where
  pub fresh : old.index ≡ old.furthest
  pub held : IsLeapRefused to old (heeded_by motion old.breakpoints) (longest_stride motion (old.index - from)) sink new later

abbrev pub Strides : {S E : Type 0} → Giving S → SessionValue → Motion → (from : ℕ) → S → Result (Option Stop) E → SessionValue → S → Type 0
Strides to old motion from sink (Ok stop) new later = HasStrode to.took old motion from sink stop new later
Strides to old motion from sink (Err refusal) new later = IsStrideRefused to old motion from sink new later
