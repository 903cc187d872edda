-- Law: what is proved of the definitions of Obeying.antt.
use Rattle.pac_debug.specs.declared.line.CommandFault.TheVariants as faults
use Rattle.pac_board.specs.SinksLaws.{Giving}
use Rattle.pac_debug_session.specs.Session.{SessionValue}
use Rattle.std.specs.Prelude.{Result, Ok, Some, ◌≡◌, ◌⊎◌, List, ℕ, Err, Option, None, [], ◌∷◌}
use Rattle.pac_debug_text.specs.declared.command.Command.{Command}
use Rattle.pac_debug_text.specs.declared.command.NoCommand.{NoCommand}
use Rattle.pac_debug_session.specs.declared.motion.Motion.{Motion}
use Rattle.pac_debug.specs.Obeying.{motion_of, IsCommandObeyed, session_without_due}
use Rattle.pac_debug_session.specs.MotionsLaws.{IsTravelRefused}
use Rattle.pac_board.specs.Output.{Output}
use Rattle.pac_debug.specs.declared.answer.Answer.{Answer}
use Rattle.pac_board.specs.Sinks.{TookAll, Then}
use Rattle.pac_debug_session.specs.SessionLaws.{session_due_outputs, IsSessionOfferRefused, session_at_command}
use Rattle.pac_out.specs.declared.counted.Counted.{Counted}
use Rattle.pac_debug.specs.Answers.{answer_text}
use Rattle.pac_debug.specs.declared.line.CommandFault.{CommandFault}
use Rattle.pac_out.specs.CountedLaws.{HasPut, Refuses}
use Rattle.pac_debug_text.specs.Commands.{command_of}

-- the sink refused an output on the way
pub record IsHeldUp {S : Type 0} (to : Giving S) (old : SessionValue) (asked : Result Command NoCommand) (sink : S) (new : SessionValue)
    (later : S)
    : Type 0 where
  pub command : Command
  pub asked_is : asked ≡ Ok command
  pub motion : Motion
  pub motion_is : motion_of command ≡ Some motion
  pub held_up : IsTravelRefused to old motion sink new later

-- The line was done: what was due was taken first.
pub record IsCommandDone {S : Type 0} (took : S → Output → S → Type 0) (old : SessionValue) (asked : Result Command NoCommand) (sink : S)
    (answer : Answer) (new : SessionValue) (later : S)
    : Type 0 where
  pub between : S
  pub offered : TookAll took sink (session_due_outputs old) between
  pub obeyed : IsCommandObeyed took (session_without_due old) asked between answer new later

-- The sink took what was due, and refused an output on the way.
pub record IsRefusedLater {S : Type 0} (to : Giving S) (old : SessionValue) (asked : Result Command NoCommand) (sink : S)
    (new : SessionValue) (later : S)
    : Type 0 where
  pub between : S
  pub offered : TookAll to.took sink (session_due_outputs old) between
  pub held_up : IsHeldUp to (session_without_due old) asked between new later

-- the sink refused what was due, or an output on the way
abbrev pub IsCommandRefused : {S : Type 0} → Giving S → SessionValue → Result Command NoCommand → S → SessionValue → S → Type 0
IsCommandRefused to old asked sink new later =
    IsSessionOfferRefused to (session_at_command old) sink new later ⊎ IsRefusedLater to old asked sink new later

-- what is before a command line, and after it: the session, the sink of its outputs, and the file of its texts
pub record Scene (S W : Type 0) : Type 0 where
  pub session : SessionValue
  pub sink : S
  pub text : Counted W

-- The line was done, and this became of its answer's text: the command is done whether that could be written or not.
pub record HasAnswered {S W : Type 0} (took : S → Output → S → Type 0) (Told : Counted W → List ℕ → Counted W → Type 0)
    (asked : Result Command NoCommand) (old new : Scene S W)
    : Type 0 where
  pub answer : Answer
  pub did : IsCommandDone took old.session asked old.sink answer new.session new.sink
  pub told : Told old.text (answer_text new.session answer) new.text

-- a line with words: it is answered; or the sink refused, and nothing is told; or its text's writer refused, now or before
abbrev pub AnswersWords : {S W A : Type 0} → Giving S → (wrote : W → List ℕ → W → Type 0) → (balked : W → W → Type 0)
    → Result Command NoCommand → Scene S W → Result A CommandFault → Scene S W → Type 0
AnswersWords to wrote balked asked old (Ok done) new = HasAnswered to.took (HasPut wrote) asked old new
AnswersWords to wrote balked asked old (Err faults.Refused) new =
    IsCommandRefused to old.session asked old.sink new.session new.sink × (new.text ≡ old.text)
AnswersWords to wrote balked asked old (Err (faults.Text fault)) new =
    HasAnswered to.took (λ before text after. Refuses wrote balked before text fault after) asked old new

-- a line without words, which does nothing
abbrev pub Skips : {S W A : Type 0} → Scene S W → Result A CommandFault → Scene S W → Type 0
Skips old (Ok done) new = (new.session ≡ old.session) × (new.sink ≡ old.sink) × (new.text ≡ old.text)
Skips old (Err fault) new = ⊥

-- a command line, by what it asks
abbrev pub Asks : {S W A : Type 0} → Giving S → (wrote : W → List ℕ → W → Type 0) → (balked : W → W → Type 0)
    → Option (Result Command NoCommand) → Scene S W → Result A CommandFault → Scene S W → Type 0
Asks to wrote balked None old result new = Skips old result new
Asks to wrote balked (Some asked) old result new = AnswersWords to wrote balked asked old result new

abbrev pub Commands : {S W A : Type 0} → Giving S → (wrote : W → List ℕ → W → Type 0) → (balked : W → W → Type 0) → (line : List ℕ)
    → Scene S W → Result A CommandFault → Scene S W → Type 0
Commands to wrote balked line old result new = Asks to wrote balked (command_of line) old result new

-- a line that is answered, or that has no words
abbrev pub IsLineAnswered : {S W : Type 0} → Giving S → (wrote : W → List ℕ → W → Type 0) → (balked : W → W → Type 0) → (line : List ℕ)
    → (old new : Scene S W) → Type 0
IsLineAnswered to wrote balked line old new = Commands {A = Unit {0}} to wrote balked line old (Ok tt) new

-- the lines of a text, one after another, up to the first that isn't answered
abbrev pub ObeysLines : {S W : Type 0} → Giving S → (wrote : W → List ℕ → W → Type 0) → (balked : W → W → Type 0)
    → (lines : List (List ℕ)) → Scene S W → Result (Unit {0}) CommandFault → Scene S W → Type 0
ObeysLines to wrote balked [] old (Ok done) new = new ≡ old
ObeysLines to wrote balked [] old (Err fault) new = ⊥
ObeysLines to wrote balked (line ∷ more) old (Ok done) new =
    Then (IsLineAnswered to wrote balked line old) (λ between. ObeysLines to wrote balked more between (Ok done) new)
ObeysLines to wrote balked (line ∷ more) old (Err fault) new =
    Commands {A = Unit {0}} to wrote balked line old (Err fault) new
    ⊎ Then (IsLineAnswered to wrote balked line old) (λ between. ObeysLines to wrote balked more between (Err fault) new)
