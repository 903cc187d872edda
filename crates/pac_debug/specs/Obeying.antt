-- Believed: what a command line does to a session, and what it is answered with.
use Rattle.std.specs.Prelude.{◌≡◌, ◌<◌, ℕ, Bool, true, false, [], ◌∷◌, ◌++◌, length, Option, None, Some, Result, Ok, Err}
use Rattle.std.specs.Prelude.{slice_index_or}
use Rattle.pac_board.specs.Output.{Output}
use Rattle.pac_board.specs.State.{nothing_due}
use Rattle.pac_debug_text.specs.declared.command.Command.{Command}
use Rattle.pac_debug_text.specs.declared.command.Command.TheVariants as commands
use Rattle.pac_debug_text.specs.declared.command.NoCommand.{NoCommand}
use Rattle.pac_debug_text.specs.declared.place.Ending.TheVariants as endings
use Rattle.pac_debug_text.specs.declared.refusal.Refusal.TheVariants as refusals
use Rattle.pac_debug_text.specs.Slots.{slot_index}
use Rattle.pac_debug_session.specs.declared.motion.MotionEnd.{MotionEnd}
use Rattle.pac_debug_session.specs.declared.motion.Motion.{Motion}
use Rattle.pac_debug_session.specs.declared.motion.Motion.TheVariants as motions
use Rattle.pac_debug_session.specs.Motions.{HasTravelled, IsBack, IsTooOld, session_with_slot}
use Rattle.pac_debug_session.specs.Session.{SessionValue, has_breakpoint}
use Rattle.pac_debug_session.specs.Session.{without_breakpoint, most_breakpoints}
use Rattle.pac_debug.specs.declared.answer.Answer.{Answer}
use Rattle.pac_debug.specs.declared.answer.Answer.TheVariants as answers
use Rattle.pac_debug.specs.Answers.{ending_of}

-- ---- what is done, with nothing due

-- the session moved on to where the motion rests
pub record HasMoved {S : Type 0} (took : S → Output → S → Type 0) (old : SessionValue) (motion : Motion) (sink : S) (answer : Answer)
    (new : SessionValue) (later : S)
    : Type 0 where
  pub why : MotionEnd
  pub travelled : HasTravelled took old motion sink why new later
  pub answer_is : answer ≡ answers.Moved (ending_of why)

-- back by so many steps, unless that is older than the oldest index
abbrev pub AnswersBack : SessionValue → (count : ℕ) → Answer → SessionValue → Type 0
AnswersBack old count (answers.Moved endings.Back) new = IsBack old count new
AnswersBack old count (answers.Refused (refusals.TooFarBack oldest)) new = IsTooOld old count oldest new
AnswersBack old count other new = ⊥

-- to what a slot keeps, unless it keeps nothing
abbrev pub AnswersReturn : SessionValue → (kept : Option ℕ) → Answer → SessionValue → Type 0
AnswersReturn old (Some index) answer new = (answer ≡ answers.Moved endings.Return) × (new ≡ record old { index = index })
AnswersReturn old None answer new = (answer ≡ answers.Refused refusals.EmptySlot) × (new ≡ old)

-- a breakpoint is set: a second time changes nothing, and a 65th is refused
abbrev pub SetsBreakpoint : SessionValue → (address : ℕ) → (is_set : Bool) → Answer → SessionValue → Type 0
SetsBreakpoint old address true answer new = (answer ≡ answers.Done) × (new ≡ old)
SetsBreakpoint old address false answers.Done new =
    (length old.breakpoints < most_breakpoints) × (new ≡ record old { breakpoints = old.breakpoints ++ address ∷ [] })
SetsBreakpoint old address false (answers.Refused refusals.NoRoom) new =
    (length old.breakpoints ≡ most_breakpoints) × (new ≡ old)
SetsBreakpoint old address false other new = ⊥

-- what stands in a slot
abbrev pub kept_at : SessionValue → ℕ → Option ℕ
kept_at s slot = slice_index_or s.slots slot None

-- a command that doesn't move on
abbrev pub Stays : SessionValue → Command → Answer → SessionValue → Type 0
Stays old (commands.Back count) answer new = AnswersBack old count answer new
Stays old (commands.Return slot) answer new = AnswersReturn old (kept_at old (slot_index slot)) answer new
Stays old (commands.Keep slot) answer new = (answer ≡ answers.Done) × (new ≡ session_with_slot old (slot_index slot))
Stays old (commands.Break at) answer new = SetsBreakpoint old at (has_breakpoint old at) answer new
Stays old (commands.Unbreak at) answer new = (answer ≡ answers.Done) × (new ≡ without_breakpoint old at)
Stays old commands.Regs answer new = (answer ≡ answers.Registers) × (new ≡ old)
Stays old (commands.Mem at count) answer new = (answer ≡ answers.Bytes at count) × (new ≡ old)
Stays old (commands.Dis at count) answer new = (answer ≡ answers.Instructions at count) × (new ≡ old)
Stays old (commands.History count) answer new = (answer ≡ answers.Steps count) × (new ≡ old)
Stays old other answer new = ⊥

-- the motion of a command that moves on
abbrev pub motion_of : Command → Option Motion
motion_of (commands.Step count) = Some (motions.Steps count)
motion_of commands.Continue = Some motions.Continue
motion_of (commands.Frames count) = Some (motions.Frames count)
motion_of others = None

-- a command, by its motion
abbrev pub IsCommandPerformed : {S : Type 0} → (S → Output → S → Type 0) → SessionValue → Command → Option Motion → S → Answer →
    SessionValue → S
    → Type 0
IsCommandPerformed took old command (Some motion) sink answer new later = HasMoved took old motion sink answer new later
IsCommandPerformed took old command None sink answer new later = Stays old command answer new × (later ≡ sink)

-- a line with words, be it a command or none
abbrev pub IsCommandObeyed : {S : Type 0} → (S → Output → S → Type 0) → SessionValue → Result Command NoCommand → S → Answer →
    SessionValue → S
    → Type 0
IsCommandObeyed took old (Ok command) sink answer new later = IsCommandPerformed took old command (motion_of command) sink answer new later
IsCommandObeyed took old (Err none) sink answer new later =
    (answer ≡ answers.Refused refusals.NoCommand) × (new ≡ old) × (later ≡ sink)

-- ---- a line with words

-- the session when what was due was taken
abbrev pub session_without_due : SessionValue → SessionValue
session_without_due s = record s { due = nothing_due; replayed = 0 }

-- ---- a command line

-- ---- a text of commands
