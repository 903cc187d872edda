-- For proofs: what proofs say of the definitions of Motions.antt.
use Rattle.pac_debug_session.specs.declared.motion.MotionEnd.{MotionEnd}
use Rattle.std.specs.Prelude.{Option, Some, None, Result, Ok, Err, ◌≡◌, not, ◌++◌, ◌⊎◌, ℕ, ◌-◌}
use Rattle.pac_board_course.specs.Stop.{Stop}
use Rattle.pac_debug_session.specs.declared.motion.MotionEnd.TheVariants.{AtStop}
use Rattle.pac_board_course.specs.SinksLaws.{Giving}
use Rattle.pac_debug_session.specs.Session.{SessionValue}
use Rattle.pac_debug_session.specs.declared.motion.Motion.{Motion}
use Rattle.pac_debug_session.specs.Motions.{HasTravelled, moved_to, IsBack, IsTooOld}
use Rattle.pac_debug_session.specs.MotionsLaws.{IsTravelRefused, IsOutcome, IsFinishRefused}
use Rattle.pac_board_course.specs.State.{steps_counted}
use Rattle.pac_debug_session.specs.Running.{IsLeast, goes_at}
use Rattle.pac_debug_session.specs.SessionLaws.{session_due_outputs, IsSessionOfferRefused, session_at_command}
use Rattle.pac_board_course.specs.Output.{Output}
use Rattle.pac_board_course.specs.declared.outcome.Outcome.{Outcome}
use Rattle.pac_board_course.specs.Sinks.{TookAll}
use Rattle.pac_debug_session.specs.RunningLaws.{outputs_from}

-- the stop that a motion met, if it met one
abbrev pub stop_of : MotionEnd → Option Stop
stop_of (AtStop stop) = Some stop
stop_of why = None

abbrev pub Travels : {S E : Type 0} → Giving S → SessionValue → Motion → S → Result MotionEnd E → SessionValue → S → Type 0
Travels to old motion sink (Ok why) new later = HasTravelled to.took old motion sink why new later
Travels to old motion sink (Err refusal) new later = IsTravelRefused to old motion sink new later

-- The session is brought to the end of its run: the sink took what was due, and what the run gives from the furthest index on.
pub record IsFinished {S : Type 0} (took : S → Output → S → Type 0) (old : SessionValue) (sink : S) (outcome : Outcome)
    (new : SessionValue) (later : S)
    : Type 0 where
  pub rest : IsLeast (λ index. not (goes_at old.setting index)) old.index new.index
  pub outcome_is : IsOutcome old outcome
  pub session : new ≡ record (moved_to old new.index) { replayed = 0 }
  pub sink_is : TookAll took sink (session_due_outputs old ++ outputs_from old.setting old.furthest) later

abbrev pub FinishesRun : {S E : Type 0} → Giving S → SessionValue → S → Result Outcome E → SessionValue → S → Type 0
FinishesRun to old sink (Ok outcome) new later = IsFinished to.took old sink outcome new later
FinishesRun to old sink (Err refusal) new later =
    IsSessionOfferRefused to (session_at_command old) sink new later ⊎ IsFinishRefused to old sink new later

-- The session is used up: so it was left in the end.
pub record PlaysOn {S E : Type 0} (to : Giving S) (old : SessionValue) (sink : S) (result : Result Outcome E) (later : S)
    : Type 0 where
  pub left : SessionValue
  pub finishes : FinishesRun to old sink result left later

-- the session at an index, where the board did the steps from another one to it again
abbrev pub replayed_to : SessionValue → ℕ → SessionValue
replayed_to s index = record s { index = index; made = steps_counted s.made (index - s.index) }

abbrev pub GoesBack : {A : Type 0} → SessionValue → (count : ℕ) → Result A ℕ → SessionValue → Type 0
GoesBack old count (Ok done) new = IsBack old count new
GoesBack old count (Err oldest) new = IsTooOld old count oldest new

-- the session goes to the index that a slot keeps; an empty slot keeps none
abbrev pub ReturnsTo : {A E : Type 0} → SessionValue → Option ℕ → Result A E → SessionValue → Type 0
ReturnsTo old (Some index) (Ok done) new = new ≡ record old { index = index }
ReturnsTo old (Some index) (Err empty) new = ⊥
ReturnsTo old None (Ok done) new = ⊥
ReturnsTo old None (Err empty) new = new ≡ old
