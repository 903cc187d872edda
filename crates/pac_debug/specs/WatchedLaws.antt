-- Law: what is proved of the definitions of Watched.antt.
use Rattle.pac_debug.specs.declared.line.CommandFault.TheVariants as faults
use Rattle.pac_debug_session.specs.Session.{SessionValue}
use Rattle.std.specs.Prelude.{List, ◌++◌, ◌≡◌, ◌≤◌, ℕ, true, All, None, not, Option, Result, Some, [], ◌∷◌, ◌⊎◌, Ok, Err}
use Rattle.pac_board.specs.Output.{Output}
use Rattle.pac_debug_session.specs.SessionLaws.{session_due_outputs, IsSessionOfferRefused, session_at_command}
use Rattle.pac_debug_session.specs.Running.{outputs_between, IsLeast, goes_at}
use Rattle.pac_board.specs.Sinks.{TookAll}
use Rattle.pac_board.specs.SinksLaws.{Giving, Cut}
use Rattle.pac_out.specs.declared.counted.Counted.{Counted}
use Rattle.pac_out.specs.CountedLaws.{Takes, Refuses}
use Rattle.pac_debug_text.specs.Commands.{command_of}
use Rattle.pac_debug_session.specs.RunningLaws.{outputs_from}
use Rattle.pac_debug.specs.ObeyingLaws.{Scene, IsCommandRefused}
use Rattle.pac_debug_session.specs.Outcome.{Outcome}
use Rattle.pac_debug.specs.Watched.{TellsAll, TellsOfLine}
use Rattle.pac_debug_session.specs.MotionsLaws.{IsOutcome, IsFinishRefused}
use Rattle.pac_debug_session.specs.Motions.{moved_to}
use Rattle.pac_debug_text.specs.declared.command.Command.{Command}
use Rattle.pac_debug_text.specs.declared.command.NoCommand.{NoCommand}
use mathlib.Core.List.{IsPrefix}
use Rattle.pac_out.specs.declared.WriteFault.{WriteFault}
use Rattle.pac_board.specs.State.{nothing_due}
use Rattle.pac_debug.specs.declared.line.CommandFault.{CommandFault}

-- what is to be given from one moment of a session to a later one: what was due, and what the run gives from the furthest index to
-- the new furthest index
abbrev pub outputs_until : (old new : SessionValue) → List Output
outputs_until old new = session_due_outputs old ++ outputs_between old.setting old.furthest new.furthest

-- at a later moment a session looks at the same run, and was no less far in it
pub record IsFurther (old new : SessionValue) : Type 0 where
  pub setting : new.setting ≡ old.setting
  pub furthest : old.furthest ≤ new.furthest

-- the sink took all that was offered: each output was taken, once and in order, or is due now
pub record GaveAll {S : Type 0} (took : S → Output → S → Type 0) (old : SessionValue) (sink : S) (new : SessionValue) (later : S)
    : Type 0 where
  pub further : IsFurther old new
  pub taken : List Output
  pub parts : outputs_until old new ≡ taken ++ session_due_outputs new
  pub sink_is : TookAll took sink taken later

-- the sink took some, and refused the first of those that are due now
pub record GaveSome {S : Type 0} (to : Giving S) (old : SessionValue) (sink : S) (new : SessionValue) (later : S) : Type 0 where
  pub further : IsFurther old new
  pub cut : Cut to sink (outputs_until old new) (session_due_outputs new) later

-- The file took what these lines tell. Where it had failed, none of them has words, for a line with words isn't answered there.
pub record TookTold {W : Type 0} (wrote : W → List ℕ → W → Type 0) (lines : List (List ℕ)) (old : Counted W) (told : List ℕ)
    (new : Counted W) : Type 0 where
  pub takes : Takes wrote old told new
  pub later : old.failed ≡ true → All (λ line. command_of line ≡ None) lines

-- what a session has still to give, in order: what is due, and what the run gives from the furthest index on
abbrev pub outputs_to_give : SessionValue → List Output
outputs_to_give s = session_due_outputs s ++ outputs_from s.setting s.furthest

-- All lines were answered, and the run went on to its end. The sink took all that the session had still to give, once and in order.
pub record IsSessionWatched {S W : Type 0} (took : S → Output → S → Type 0) (wrote : W → List ℕ → W → Type 0) (asked : List (List ℕ))
    (old : Scene S W) (result : Outcome) (new : Scene S W)
    : Type 0 where
  -- where the lines leave the session, and what they tell
  pub between : SessionValue
  pub told : List ℕ
  pub lines : TellsAll asked old.session told between
  pub text : TookTold wrote asked old.text told new.text
  pub outcome : IsOutcome old.session result
  pub sink : TookAll took old.sink (outputs_to_give old.session) new.sink
  -- from there it went on to the first index at which the run goes no further
  pub rest : IsLeast (λ index. not (goes_at old.session.setting index)) between.index new.session.index
  pub session : new.session ≡ record (moved_to between new.session.index) { replayed = 0 }

-- the sink refused an output at a line; one without words offers none
abbrev pub RefusedOf : {S : Type 0} → Giving S → Option (Result Command NoCommand) → SessionValue → S → SessionValue → S → Type 0
RefusedOf to None old sink new later = ⊥
RefusedOf to (Some asked) old sink new later = IsCommandRefused to old asked sink new later

-- the sink refused an output at the next line; or, where none is left, on the way to the run's end
abbrev pub RefusedAt : {S : Type 0} → Giving S → (lines : List (List ℕ)) → SessionValue → S → SessionValue → S → Type 0
RefusedAt to [] old sink new later =
    IsSessionOfferRefused to (session_at_command old) sink new later ⊎ IsFinishRefused to old sink new later
RefusedAt to (line ∷ more) old sink new later = RefusedOf to (command_of line) old sink new later

-- The sink refused an output. The lines before were answered, and no more is told. The sink took all outputs before the refused one,
-- once and in order; that one and those after it are due.
pub record IsWatchRefused {S W : Type 0} (to : Giving S) (wrote : W → List ℕ → W → Type 0) (asked : List (List ℕ)) (old new : Scene S W)
    : Type 0 where
  pub before : List (List ℕ)
  pub after : List (List ℕ)
  pub parts : asked ≡ before ++ after
  -- where the lines before leave the session and the sink, and what they tell
  pub between : SessionValue
  pub sink_between : S
  pub told : List ℕ
  pub lines : TellsAll before old.session told between
  pub text : TookTold wrote before old.text told new.text
  pub gave : GaveAll to.took old.session old.sink between sink_between
  pub refusal : RefusedAt to after between sink_between new.session new.sink
  -- what the sink took in all, and what is due
  pub in_all : GaveSome to old.session old.sink new.session new.sink
  pub among : IsPrefix (in_all.cut.taken ++ session_due_outputs new.session) (outputs_to_give old.session)

-- The writer refused the text of a line. The lines before were answered, and that one is done, too. The sink took the outputs that these
-- lines give, once and in order, and nothing is due.
pub record IsWatchUntold {S W : Type 0} (took : S → Output → S → Type 0) (wrote : W → List ℕ → W → Type 0) (balked : W → W → Type 0)
    (asked : List (List ℕ)) (old : Scene S W) (fault : WriteFault) (new : Scene S W)
    : Type 0 where
  pub before : List (List ℕ)
  pub line : List ℕ
  pub after : List (List ℕ)
  pub parts : asked ≡ before ++ line ∷ after
  -- where the lines before leave the session and the file, and what they tell
  pub between : SessionValue
  pub file_between : Counted W
  pub told : List ℕ
  pub lines : TellsAll before old.session told between
  pub text : TookTold wrote before old.text told file_between
  -- what the line tells whose text was refused
  pub more : List ℕ
  pub tells : TellsOfLine line between more new.session
  pub refuses : Refuses wrote balked file_between more fault new.text
  pub in_all : GaveAll took old.session old.sink new.session new.sink
  pub none_due : new.session.due ≡ nothing_due
  pub among : IsPrefix in_all.taken (outputs_to_give old.session)

-- a whole session, by its answer: what the lines ask, one after another, and then the run's end
abbrev pub WatchesSession : {S W : Type 0} → Giving S → (wrote : W → List ℕ → W → Type 0) → (balked : W → W → Type 0)
    → (lines : List (List ℕ)) → Scene S W → Result Outcome CommandFault → Scene S W → Type 0
WatchesSession to wrote balked lines old (Ok outcome) new = IsSessionWatched to.took wrote lines old outcome new
WatchesSession to wrote balked lines old (Err faults.Refused) new = IsWatchRefused to wrote lines old new
WatchesSession to wrote balked lines old (Err (faults.Text fault)) new = IsWatchUntold to.took wrote balked lines old fault new
