-- Law: what is proved of the definitions of Calls.antt.
use Rattle.pac_board.specs.State.{BoardValue, due_outputs, nothing_due, latest, time_of, most_asked}
use Rattle.pac_board_model.specs.Step.{Next, Goes, Ends}
use Rattle.pac_board_model.specs.BoardView.{BoardView}
use Rattle.std.specs.Prelude.{[], ℕ, ◌-◌, ◌≡◌, Result, Ok, Err, ◌<◌, ◌≢◌, ◌≤◌, ◌++◌, ◌⊎◌, ◌+◌, suc}
use Rattle.pac_board_model.specs.Output.{Output}
use Rattle.pac_cpu.specs.declared.once.Once.{Once}
use Rattle.pac_cpu.specs.declared.once.Once.TheVariants.{Stepped, Stopped}
use Rattle.pac_board.specs.SinksLaws.{Giving, Cut}
use Rattle.pac_board.specs.Sinks.{TookAll}
use Rattle.pac_board.specs.declared.fault.Idle.{Idle}
use Rattle.pac_board.specs.declared.fault.Idle.TheVariants.{OutputsDue, TimeIsOver}
use mathlib.Core.List.{IsPrefix}
use Rattle.pac_board.specs.declared.fault.Fault.{Fault}
use Rattle.pac_board.specs.declared.fault.Fault.TheVariants.{TooFar, Refused}
use Rattle.pac_board_model.specs.Walk.{Walk}
use Rattle.pac_board.specs.declared.exec.Ran.{Ran}
use Rattle.pac_board.specs.Calls.{board_after_run, outputs_given, course, board_after_course, way_at}
use Rattle.pac_board.specs.Calls.{next_of, with_due, board_after_step, outputs_in}

-- the answer to whoever asked for the step, at this time
abbrev pub once_at : Next BoardView → ℕ → Once
once_at (Goes now outputs kind) time = Stepped (now.time - time) kind
once_at (Ends stop) time = Stopped stop

abbrev pub once_of_board : BoardValue → Once
once_of_board board = once_at (next_of board) board.state.now.time

-- a board offered what was due, and part of it was refused, which is due still
pub record IsOfferRefused {S : Type 0} (to : Giving S) (old : BoardValue) (sink : S) (new : BoardValue) (later : S) : Type 0 where
  pub board : new ≡ with_due old new.state.due
  pub cut : Cut to sink (due_outputs old) (due_outputs new) later

abbrev pub Offers : {S A E : Type 0} → Giving S → BoardValue → S → Result A E → BoardValue → S → Type 0
Offers to old sink (Ok done) new later = (new ≡ with_due old nothing_due) × TookAll to.took sink (due_outputs old) later
Offers to old sink (Err refusal) new later = IsOfferRefused to old sink new later

pub record IsAdvanced (old : BoardValue) (once : Once) (new : BoardValue) : Type 0 where
  pub early : old.state.now.time < latest
  pub nothing : due_outputs old ≡ []
  pub board : new ≡ board_after_step (next_of old) old new.state.due
  pub outputs : due_outputs new ≡ outputs_in (next_of old)
  pub once_is : once ≡ once_of_board old

abbrev pub WasIdle : BoardValue → Idle → Type 0
WasIdle old OutputsDue = due_outputs old ≢ []
WasIdle old TimeIsOver = (due_outputs old ≡ []) × (latest ≤ old.state.now.time)

abbrev pub Advances : BoardValue → Result Once Idle → BoardValue → Type 0
Advances old (Ok once) new = IsAdvanced old once new
Advances old (Err why) new = (new ≡ old) × WasIdle old why

-- all was taken: what was due, and what the step gave
pub record IsOneStep {S : Type 0} (took : S → Output → S → Type 0) (old : BoardValue) (sink : S) (once : Once) (new : BoardValue)
    (later : S)
    : Type 0 where
  pub early : old.state.now.time < latest
  pub board : new ≡ board_after_step (next_of old) (with_due old nothing_due) nothing_due
  pub once_is : once ≡ once_of_board old
  pub sink_is : TookAll took sink (due_outputs old ++ outputs_in (next_of old)) later

-- the step was done, after all that was due was taken, and part of what it gave was refused
pub record IsStepRefused {S : Type 0} (to : Giving S) (old : BoardValue) (sink : S) (new : BoardValue) (later : S) : Type 0 where
  pub board : new ≡ board_after_step (next_of old) (with_due old nothing_due) new.state.due
  pub cut : Cut to sink (due_outputs old ++ outputs_in (next_of old)) (due_outputs new) later
  pub of_step : IsPrefix (due_outputs old) cut.taken

-- board and sink were left as they were
pub record IsUnchanged {S : Type 0} (old : BoardValue) (sink : S) (new : BoardValue) (later : S) : Type 0 where
  pub board : new ≡ old
  pub sink_is : later ≡ sink

abbrev pub StepsOnce : {S : Type 0} → Giving S → BoardValue → S → Result Once Fault → BoardValue → S → Type 0
StepsOnce to old sink (Ok once) new later = IsOneStep to.took old sink once new later
StepsOnce to old sink (Err TooFar) new later = (latest ≤ old.state.now.time) × IsUnchanged old sink new later
StepsOnce to old sink (Err Refused) new later =
    (old.state.now.time < latest) × (IsOfferRefused to old sink new later ⊎ IsStepRefused to old sink new later)

-- the walk that a call for so many microseconds makes: after so many tries, and to its end
abbrev pub course_at : BoardValue → ℕ → ℕ → Walk BoardView
course_at board microseconds tries =
    way_at board (time_of (board.state.asked + microseconds)) tries

-- a call for so many microseconds came to its end: by the time, or by a stop
pub record HasRun {S : Type 0} (took : S → Output → S → Type 0) (old : BoardValue) (microseconds : ℕ) (sink : S) (answer : Ran)
    (new : BoardValue) (later : S)
    : Type 0 where
  pub within : old.state.asked + microseconds ≤ most_asked
  pub board : new ≡ board_after_run old microseconds
  pub sink_is : TookAll took sink (outputs_given old microseconds) later
  pub ticks : answer.ticks ≡ new.state.now.time - old.state.now.time
  pub stop : answer.stop ≡ (course old microseconds).stop

-- The sink refused an output: the call ended after the step that gave it, and that output and the later one of its step are due.
-- All that was given before was taken.
pub record IsRunRefused {S : Type 0} (to : Giving S) (old : BoardValue) (microseconds : ℕ) (sink : S) (new : BoardValue) (later : S)
    : Type 0 where
  pub within : old.state.asked + microseconds ≤ most_asked
  pub steps : ℕ
  pub board : new ≡ with_due (board_after_course old microseconds (course_at old microseconds steps)) new.state.due
  pub all_steps : new.state.now.steps ≡ old.state.now.steps + steps
  pub cut : Cut to sink (due_outputs old ++ (course_at old microseconds steps).outputs) (due_outputs new) later
  pub of_last :
      (before : ℕ) → steps ≡ suc before → IsPrefix (due_outputs old ++ (course_at old microseconds before).outputs) cut.taken

abbrev pub Executes : {S : Type 0} → Giving S → BoardValue → ℕ → S → Result Ran Fault → BoardValue → S → Type 0
Executes to old microseconds sink (Ok answer) new later = HasRun to.took old microseconds sink answer new later
Executes to old microseconds sink (Err TooFar) new later =
    (most_asked < old.state.asked + microseconds) × IsUnchanged old sink new later
Executes to old microseconds sink (Err Refused) new later = IsRunRefused to old microseconds sink new later
