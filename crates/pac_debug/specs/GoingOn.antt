-- Law: the laws of command lines that go on after one that wasn't answered, each proved on a public function of the crate.
-- A sink or a text may refuse at any of the lines, and the next line is done all the same.
use Rattle.std.specs.Prelude.{◌≡◌, ◌<◌, ◌≤◌, ℕ, ◌+◌, true, false, List, [], ◌∷◌, ◌++◌, length, Option, None, Some, Result, Ok, Err, ◌⊎◌}
use Rattle.pac_board.specs.Output.{Output}
use Rattle.pac_board.specs.SinksLaws.{Giving}
use Rattle.pac_board.specs.Sinks.{Then}
use Rattle.pac_out.specs.declared.counted.Counted.{Counted}
use Rattle.pac_out.specs.CountedLaws.{Takes, Refuses}
use Rattle.pac_debug_text.specs.declared.command.Command.{Command}
use Rattle.pac_debug_text.specs.declared.command.NoCommand.{NoCommand}
use Rattle.pac_debug_text.specs.Commands.{command_of}
use Rattle.pac_debug_session.specs.declared.motion.Motion.{Motion}
use Rattle.pac_debug_session.specs.Motions.{moved_to, rests}
use Rattle.pac_debug_session.specs.Running.{outputs_between}
use Rattle.pac_debug_session.specs.Session.{SessionValue}
use Rattle.pac_debug_session.specs.SessionLaws.{session_at_command, session_due_outputs}
use Rattle.pac_debug.specs.declared.line.CommandFault.{CommandFault}
use Rattle.pac_debug.specs.declared.line.CommandFault.TheVariants as faults
use Rattle.pac_debug.specs.ObeyingLaws.{Scene, Commands, ObeysLines}
use Rattle.pac_debug.specs.Obeying.{motion_of, session_without_due}
use Rattle.pac_debug.specs.Watched.{TellsOfLine}
use Rattle.pac_debug.specs.WatchedLaws.{IsFurther, outputs_until}

-- how a line was answered
abbrev pub LineAnswer : Type 0
LineAnswer = Result (Unit {0}) CommandFault

-- lines, one after another, each with its answer, and each from where the one before it left the session, the sink and the file
abbrev pub AnswersEach : {S W : Type 0} → Giving S → (wrote : W → List ℕ → W → Type 0) → (balked : W → W → Type 0)
    → (lines : List (List ℕ)) → List LineAnswer → (old new : Scene S W) → Type 0
AnswersEach to wrote balked [] [] old new = new ≡ old
AnswersEach to wrote balked (line ∷ lines) (answer ∷ answers) old new =
    Then (Commands to wrote balked line old answer) (λ between. AnswersEach to wrote balked lines answers between new)
AnswersEach to wrote balked lines answers old new = ⊥

-- ---- what the sink was offered

-- an output that was offered, and what came of it
pub data Offered : Type 0 where
  WasTaken : (output : Output) → Offered
  WasRefused : (output : Output) → Offered

-- so a sink answered to what it was offered, one after another
abbrev pub WasOffered : {S : Type 0} → Giving S → S → List Offered → S → Type 0
WasOffered to old [] new = new ≡ old
WasOffered to old (WasTaken output ∷ more) new = Then (to.took old output) (λ between. WasOffered to between more new)
WasOffered to old (WasRefused output ∷ more) new = Then (to.refused old output) (λ between. WasOffered to between more new)

-- Each of these outputs was offered until it was taken, and then the next one; and these are left.
abbrev pub AreInOrder : (outputs : List Output) → List Offered → (left : List Output) → Type 0
AreInOrder outputs [] left = left ≡ outputs
AreInOrder (output ∷ outputs) (WasTaken given ∷ more) left = (given ≡ output) × AreInOrder outputs more left
AreInOrder (output ∷ outputs) (WasRefused given ∷ more) left = (given ≡ output) × AreInOrder (output ∷ outputs) more left
AreInOrder [] (offer ∷ more) left = ⊥

-- ---- where the lines leave the session, and what they tell, by the run alone

-- Some outputs are due, the last ones of these.
pub record AreDueOf (outputs : List Output) (new : SessionValue) : Type 0 where
  pub taken : List Output
  pub parts : outputs ≡ taken ++ session_due_outputs new
  pub some_due : 0 < length (session_due_outputs new)

-- Of what was due the sink refused an output. The session stands where it stood.
pub record IsHeldUpBefore (old new : SessionValue) : Type 0 where
  pub session : new ≡ record (session_at_command old) { due = new.due }
  pub due : AreDueOf (session_due_outputs old) new

-- The sink refused an output of a step on the way. The session stands after that step, which is a new one; at no index up to it does
-- the command's motion rest; and outputs of that step are due.
pub record IsHeldUpAfter (old : SessionValue) (asked : Result Command NoCommand) (new : SessionValue) : Type 0 where
  pub command : Command
  pub asked_is : asked ≡ Ok command
  pub motion : Motion
  pub motion_is : motion_of command ≡ Some motion
  pub last : ℕ
  pub index : new.index ≡ last + 1
  pub fresh : old.furthest ≤ last
  pub restless : (earlier : ℕ) → old.index ≤ earlier → earlier ≤ last → rests old motion old.index earlier ≡ false
  pub session : new ≡ record (moved_to (session_without_due old) new.index) { due = new.due }
  pub due : AreDueOf (outputs_between old.setting last new.index) new

-- a line without words offers nothing
abbrev pub IsHeldUpAt : Option (Result Command NoCommand) → (old new : SessionValue) → Type 0
IsHeldUpAt None old new = ⊥
IsHeldUpAt (Some asked) old new = IsHeldUpBefore old new ⊎ IsHeldUpAfter old asked new

-- A line by its answer. Where its text was refused it is done as one that is answered; where the sink refused nothing is told.
abbrev pub LeavesLine : (line : List ℕ) → LineAnswer → (old : SessionValue) (text : List ℕ) (new : SessionValue) → Type 0
LeavesLine line (Ok done) old text new = TellsOfLine line old text new
LeavesLine line (Err (faults.Text fault)) old text new = TellsOfLine line old text new
LeavesLine line (Err faults.Refused) old text new = IsHeldUpAt (command_of line) old new × (text ≡ [])

-- one line, and then the others
pub record LeavesFirst (first rest : SessionValue → Type 0) : Type 0 where
  pub between : SessionValue
  pub before : first between
  pub after : rest between

-- the lines, each with its answer and its text
abbrev pub LeavesEach : (lines : List (List ℕ)) → List LineAnswer → (old : SessionValue) (texts : List (List ℕ)) (new : SessionValue)
    → Type 0
LeavesEach [] [] old [] new = new ≡ old
LeavesEach (line ∷ lines) (answer ∷ answers) old (text ∷ texts) new =
    LeavesFirst (LeavesLine line answer old text) (λ between. LeavesEach lines answers between texts new)
LeavesEach lines answers old texts new = ⊥

-- ---- what the file took

-- after a refused text: no line with words is answered any more, and each that is done has the same fault
abbrev pub NoneIsTold : (lines : List (List ℕ)) → List LineAnswer → (count : ℕ) → Type 0
NoneIsTold [] [] count = Unit {0}
NoneIsTold (line ∷ lines) (Ok done ∷ answers) count = (command_of line ≡ None) × NoneIsTold lines answers count
NoneIsTold (line ∷ lines) (Err faults.Refused ∷ answers) count = NoneIsTold lines answers count
NoneIsTold (line ∷ lines) (Err (faults.Text fault) ∷ answers) count = (fault.count ≡ count) × NoneIsTold lines answers count
NoneIsTold lines answers count = ⊥

-- The file took the texts of the lines that were answered, one after another; where its writer refused within one it has nothing of
-- later ones.
abbrev pub GoesIntoFile : {W : Type 0} → (wrote : W → List ℕ → W → Type 0) → (balked : W → W → Type 0) → (lines : List (List ℕ))
    → List LineAnswer → (texts : List (List ℕ)) → (old new : Counted W) → Type 0
GoesIntoFile wrote balked [] [] [] old new = new ≡ old
GoesIntoFile wrote balked (line ∷ lines) (Ok done ∷ answers) (text ∷ texts) old new =
    Then (λ between. Takes wrote old text between × (old.failed ≡ true → command_of line ≡ None))
    (λ between. GoesIntoFile wrote balked lines answers texts between new)
GoesIntoFile wrote balked (line ∷ lines) (Err faults.Refused ∷ answers) (text ∷ texts) old new =
    GoesIntoFile wrote balked lines answers texts old new
GoesIntoFile wrote balked (line ∷ lines) (Err (faults.Text fault) ∷ answers) (text ∷ texts) old new =
    Refuses wrote balked old text fault new × NoneIsTold lines answers fault.count
GoesIntoFile wrote balked lines answers texts old new = ⊥

-- ---- the law

-- What lines come to, whatever each asks and however it is answered. The outputs of the run up to the furthest index were offered in
-- order, each until it was taken, and those that are left are due: so the next line offers first what a sink refused. The session is
-- where the lines leave it by the run alone; and the file has their texts, up to one that was refused.
pub record ComesTo {S W : Type 0} (to : Giving S) (wrote : W → List ℕ → W → Type 0) (balked : W → W → Type 0) (lines : List (List ℕ))
    (answers : List LineAnswer) (old new : Scene S W) : Type 0 where
  pub further : IsFurther old.session new.session
  pub offers : List Offered
  pub offered : WasOffered to old.sink offers new.sink
  pub in_order : AreInOrder (outputs_until old.session new.session) offers (session_due_outputs new.session)
  pub texts : List (List ℕ)
  pub left : LeavesEach lines answers old.session texts new.session
  pub file : GoesIntoFile wrote balked lines answers texts old.text new.text

abbrev pub LinesGoOn : {S W : Type 0} → Giving S → (wrote : W → List ℕ → W → Type 0) → (balked : W → W → Type 0) → Type 0
LinesGoOn {S} {W} to wrote balked =
    (lines : List (List ℕ)) (answers : List LineAnswer) (old new : Scene S W) → AnswersEach to wrote balked lines answers old new
    → ComesTo to wrote balked lines answers old new

-- ---- texts of lines

-- the answers to some lines, of which the last one alone may not be answered
abbrev pub EndIn : List LineAnswer → LineAnswer → Type 0
EndIn [] result = result ≡ Ok tt
EndIn (answer ∷ []) result = result ≡ answer
EndIn (Ok done ∷ more) result = EndIn more result
EndIn (Err fault ∷ more) result = ⊥

-- What a text of lines comes to (`ObeysLines`) is what its lines come to, each by itself, up to the first that isn't answered. So the
-- lines that are left go on from there.
pub record AreDoneInTurn {S W : Type 0} (to : Giving S) (wrote : W → List ℕ → W → Type 0) (balked : W → W → Type 0)
    (lines : List (List ℕ)) (old : Scene S W) (result : LineAnswer) (new : Scene S W) : Type 0 where
  pub before : List (List ℕ)
  pub left : List (List ℕ)
  pub parts : lines ≡ before ++ left
  pub answers : List LineAnswer
  pub end_is : EndIn answers result
  pub each : AnswersEach to wrote balked before answers old new

abbrev pub TextsAreLines : {S W : Type 0} → Giving S → (wrote : W → List ℕ → W → Type 0) → (balked : W → W → Type 0) → Type 0
TextsAreLines {S} {W} to wrote balked =
    (lines : List (List ℕ)) (old : Scene S W) (result : LineAnswer) (new : Scene S W) → ObeysLines to wrote balked lines old result new
    → AreDoneInTurn to wrote balked lines old result new
