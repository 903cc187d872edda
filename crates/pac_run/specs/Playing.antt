-- For proofs: what plays a run into a sink, and what playing leaves of both, by the answer: a course by itself, or a session that does
-- its commands first.
use Rattle.std.specs.Prelude.{◌≡◌, ◌≤◌, ◌-◌, ◌/◌, ⊤, ℕ, List, [], ◌++◌, length, Option, None, Some, Result, Ok, Err}
use Rattle.std.specs.Option.{option_map_or}
use Rattle.std.specs.Str.Lines.{lines}
use mathlib.Core.List.{IsPrefix}
use Rattle.pac_board_course.specs.BoardView.{BoardView}
use Rattle.pac_board_course.specs.Course.{CourseValue, course_after, way_on}
use Rattle.pac_board_course.specs.Output.{Output}
use Rattle.pac_board_course.specs.Sinks.{TookAll}
use Rattle.pac_board_course.specs.SinksLaws.{Giving, Cut}
use Rattle.pac_board_course.specs.State.{nothing_due}
use Rattle.pac_board_course.specs.Step.{Moment, frame_ticks}
use Rattle.pac_board_course.specs.Stop.{Stop}
use Rattle.pac_board_course.specs.Stretches.{total_frames}
use Rattle.pac_board_course.specs.declared.outcome.Outcome.{Outcome}
use Rattle.pac_debug.specs.MotionsLaws.{IsOutcome}
use Rattle.pac_debug.specs.Running.{Setting}
use Rattle.pac_debug.specs.RunningLaws.{whole_run}
use Rattle.pac_debug.specs.Session.{SessionValue, session_at_start}
use Rattle.pac_debug.specs.Watched.{given_by}
use Rattle.pac_debug.specs.declared.line.CommandFault.{CommandFault}
use Rattle.pac_debug.specs.declared.line.CommandFault.TheVariants as faults
use Rattle.pac_media.specs.Counted.{file_count}
use Rattle.pac_run.specs.declared.watch.Watching.{Watching}
use Rattle.pac_run.specs.Run.{Writing, StopsInText, writing}
use Rattle.pac_run.specs.Watched.{AllTold, TellsALine, ToldTill}

-- What a player says of itself: when it can play, the frames of its run and all that this gives out; and what is left of it at the run's
-- end, where a sink took some of the outputs and no more, and where its text was refused, after so many bytes.
pub record Playing (P : Type 0) : Type 1 where
  pub ready : P → Type 0
  pub frames : P → ℕ
  pub gives : P → List Output
  pub done : P → Outcome → P → Type 0
  pub told : P → (taken : List Output) → P → Type 0
  pub untold : P → (taken : List Output) → (count : ℕ) → P → Type 0

-- what playing left of a player: also where nothing was played
pub record Played : Type 1 where
  pub frames : ℕ
  pub gives : List Output
  pub done : Outcome → Type 0
  pub told : (taken : List Output) → Type 0
  pub untold : (taken : List Output) → (count : ℕ) → Type 0
  pub unplayed : Type 0

abbrev pub played : {P : Type 0} → Playing P → (old new : P) → Played
played by old new = record {
  frames = by.frames old;
  gives = by.gives old;
  done = λ outcome. by.done old outcome new;
  told = λ taken. by.told old taken new;
  untold = λ taken count. by.untold old taken count new;
  unplayed = new ≡ old;
}

-- the sink took all outputs
pub record IsPlayed {S : Type 0} (took : S → Output → S → Type 0) (play : Played) (old : S) (outcome : Outcome) (new : S) : Type 0 where
  pub sink : TookAll took old play.gives new
  pub done : play.done outcome
  pub told : play.told play.gives

-- it refused one of them, when it had taken some
pub record IsPlayHeldUp {S : Type 0} (to : Giving S) (play : Played) (old new : S) : Type 0 where
  pub given : List Output
  pub left : List Output
  pub cut : Cut to old given left new
  pub among : IsPrefix (cut.taken ++ left) play.gives
  pub told : play.told cut.taken

-- the player's text was refused, when the sink had taken some of them
pub record IsBrokenOff {S : Type 0} (took : S → Output → S → Type 0) (play : Played) (old : S) (count : ℕ) (new : S) : Type 0 where
  pub taken : List Output
  pub sink : TookAll took old taken new
  pub among : IsPrefix taken play.gives
  pub untold : play.untold taken count

abbrev pub PlaysInto : {S : Type 0} → Giving S → Played → S → Result Outcome CommandFault → S → Type 0
PlaysInto to play old (Ok outcome) new = IsPlayed to.took play old outcome new
PlaysInto to play old (Err faults.Refused) new = IsPlayHeldUp to play old new
PlaysInto to play old (Err (faults.Text fault)) new = IsBrokenOff to.took play old fault.count new

-- ---- a course by itself

-- what a run came to that began at a time, after so many steps, and ended at this moment
abbrev pub outcome_between : (time steps : ℕ) → Moment BoardView → Option Stop → Outcome
outcome_between time steps now stop = record {
  frames = now.time / frame_ticks - time / frame_ticks;
  steps = now.steps - steps;
  ticks = now.time - time;
  stop = stop;
}

-- what is left of a course comes to
abbrev pub course_outcome : CourseValue → Outcome
course_outcome course =
    outcome_between course.board.state.now.time course.board.state.now.steps (way_on course).now (way_on course).stop

pub record IsAtFirst (course : CourseValue) : Type 0 where
  pub due : course.board.state.due ≡ nothing_due
  pub begins : course.gone ≡ course.board.state.now.time / frame_ticks

pub record HasEnded (old : CourseValue) (outcome : Outcome) (new : CourseValue) : Type 0 where
  pub course : new ≡ course_after old (way_on old)
  pub outcome_is : outcome ≡ course_outcome old

abbrev pub course_playing : Playing CourseValue
course_playing = record {
  ready = IsAtFirst;
  frames = λ course. total_frames course.script;
  gives = λ course. (way_on course).outputs;
  done = HasEnded;
  told = λ old taken new. ⊤;
  untold = λ old taken count new. ⊥;
}

-- ---- a session with its commands

-- a fact of the session that there is
abbrev pub OfSession : (fact : SessionValue → Type 0) → Option SessionValue → Type 0
OfSession fact None = ⊥
OfSession fact (Some session) = fact session

-- The text's writer refused within what one line tells, when the lines had given these outputs.
pub record IsLineCut {T : Type 0} (words : Writing T) (setting : Setting) (lines : List (List ℕ)) (taken : List Output) (count : ℕ) : Type
    0 where
  pub told : List ℕ
  pub more : List ℕ
  pub left : SessionValue
  pub tells : TellsALine lines (session_at_start setting 0) told more left
  pub refused : StopsInText words (told ++ more) count
  pub least : file_count (length told) ≤ count
  pub taken_is : taken ≡ given_by left

-- The run came to this, and all that the lines tell was taken.
pub record HasWatched {T : Type 0} (is_outcome : Outcome → Type 0) (words : Writing T) (setting : Setting) (lines : List (List ℕ))
    (outcome : Outcome) : Type 0 where
  pub outcome_is : is_outcome outcome
  pub told : AllTold words setting lines

-- what playing leaves of the text of a session over a run that gives these outputs
abbrev pub told_played : {T : Type 0} → Writing T → Setting → List Output → (is_outcome : Outcome → Type 0) → (lines : List (List ℕ))
    → (unplayed : Type 0) → Played
told_played words setting outputs is_outcome lines unplayed = record {
  frames = total_frames setting.script;
  gives = outputs;
  done = HasWatched is_outcome words setting lines;
  told = ToldTill words setting lines;
  untold = IsLineCut words setting lines;
  unplayed = unplayed;
}

abbrev pub session_played : {T : Type 0} → Writing T → SessionValue → (lines : List (List ℕ)) → (unplayed : Type 0) → Played
session_played words session lines unplayed =
    told_played words session.setting (whole_run session.setting).outputs (IsOutcome session) lines unplayed

-- and the same of a session that may have been played already
abbrev pub watched_by : {T : Type 0} → Writing T → (lines : List (List ℕ)) → (unplayed : Type 0) → Option SessionValue → Played
watched_by words lines unplayed found = record {
  frames = option_map_or (λ (session : SessionValue). total_frames session.setting.script) found 0;
  gives = option_map_or (λ (session : SessionValue). (whole_run session.setting).outputs) found [];
  done = λ outcome. OfSession (λ session. HasWatched (IsOutcome session) words session.setting lines outcome) found;
  told = λ taken. OfSession (λ session. ToldTill words session.setting lines taken) found;
  untold = λ taken count. OfSession (λ session. IsLineCut words session.setting lines taken count) found;
  unplayed = unplayed;
}

abbrev pub watch_playing : {T : Type 0} → (T → List ℕ → T → Type 0) → (T → T → Type 0) → Playing (Watching T)
watch_playing {T} took refused =
    let left = λ (old new : Watching T).
    watched_by (writing took refused old.text new.text) (lines old.commands.now) (new ≡ old) old.session in
    record {
      ready = λ it. OfSession (λ session. session ≡ session_at_start session.setting 0) it.session;
      frames = λ it. (left it it).frames;
      gives = λ it. (left it it).gives;
      done = λ old outcome new. (left old new).done outcome;
      told = λ old taken new. (left old new).told taken;
      untold = λ old taken count new. (left old new).untold taken count;
    }
