-- Believed: a whole session: what the lines of a text are answered with, and what a sink is given, up to the end of the
-- run. What is told is said of the run alone, without any sink; and whatever the lines ask, a sink is given each output of the
-- run once, in order.
use Rattle.std.specs.Prelude.{◌≡◌, ◌<◌, ◌≤◌, ℕ, List, [], ◌∷◌, ◌++◌, length, Option, None, Some, Result}
use Rattle.pac_board.specs.Output.{Output}
use Rattle.pac_debug_text.specs.declared.command.Command.{Command}
use Rattle.pac_debug_text.specs.declared.command.NoCommand.{NoCommand}
use Rattle.pac_debug_text.specs.Commands.{command_of}
use Rattle.pac_debug_session.specs.Running.{Setting, run}
use Rattle.pac_debug_session.specs.Session.{SessionValue, session_at_start}
use Rattle.pac_debug.specs.declared.answer.Answer.{Answer}
use Rattle.pac_debug.specs.Answers.{answer_text}
use Rattle.pac_debug.specs.Obeying.{IsCommandObeyed, session_without_due}

-- ---- what is told

-- a sink that takes all, of which nothing is kept: what a session does and tells doesn't hang on the sink
abbrev pub takes_all : Unit {0} → Output → Unit {0} → Type 0
takes_all old output new = Unit {0}

-- What a line with words tells, and where it leaves the session: what is due is taken first.
pub record WordsTell (old : SessionValue) (asked : Result Command NoCommand) (text : List ℕ) (new : SessionValue) : Type 0 where
  pub answer : Answer
  pub obeyed : IsCommandObeyed takes_all (session_without_due old) asked tt answer new tt
  pub text_is : text ≡ answer_text new answer

-- what a line tells; one without words tells nothing and changes nothing
abbrev pub TellsOfCommand : Option (Result Command NoCommand) → SessionValue → List ℕ → SessionValue → Type 0
TellsOfCommand None old text new = (text ≡ []) × (new ≡ old)
TellsOfCommand (Some asked) old text new = WordsTell old asked text new

abbrev pub TellsOfLine : (line : List ℕ) → SessionValue → (text : List ℕ) → SessionValue → Type 0
TellsOfLine line old text new = TellsOfCommand (command_of line) old text new

-- Something is told first, and then the rest, from where that leaves the session.
pub record TellsInTurn (first : List ℕ → SessionValue → Type 0) (rest : SessionValue → List ℕ → Type 0) (text : List ℕ) : Type 0 where
  pub text_before : List ℕ
  pub between : SessionValue
  pub text_after : List ℕ
  pub before : first text_before between
  pub after : rest between text_after
  pub text_is : text ≡ text_before ++ text_after

-- what lines tell, one after another
abbrev pub TellsAll : (lines : List (List ℕ)) → SessionValue → (text : List ℕ) → SessionValue → Type 0
TellsAll [] old text new = (text ≡ []) × (new ≡ old)
TellsAll (line ∷ more) old text new = TellsInTurn (TellsOfLine line old) (λ between rest. TellsAll more between rest new) text

-- ---- how far lines come

-- all that a session's run gives up to the furthest index that it has been at
abbrev pub given_by : SessionValue → List Output
given_by s = (run s.setting s.furthest).outputs

-- a line gives more than these outputs
pub record GivesMore (line : List ℕ) (old : SessionValue) (taken : List Output) : Type 0 where
  pub text : List ℕ
  pub new : SessionValue
  pub tells : TellsOfLine line old text new
  pub more : length taken < length (given_by new)

-- the first of some lines, if there is one, gives more than these outputs
abbrev pub FirstGivesMore : (lines : List (List ℕ)) → SessionValue → (taken : List Output) → Type 0
FirstGivesMore [] old taken = Unit {0}
FirstGivesMore (line ∷ more) old taken = GivesMore line old taken

-- What is told of lines from the beginning of a run, while these of its outputs are taken and no more: what those lines tell that give
-- no more than these. The next one gives more.
pub record ToldUpTo (setting : Setting) (lines : List (List ℕ)) (taken : List Output) (told : List ℕ) : Type 0 where
  pub before : List (List ℕ)
  pub after : List (List ℕ)
  pub parts : lines ≡ before ++ after
  pub left : SessionValue
  pub tells : TellsAll before (session_at_start setting 0) told left
  pub no_more : length (given_by left) ≤ length taken
  pub next : FirstGivesMore after left taken

-- ---- what is given

-- ---- a whole session
