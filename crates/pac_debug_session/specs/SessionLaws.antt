-- Law: what is proved of the definitions of Session.antt.
use Rattle.pac_debug_session.specs.Session.{SessionValue, most_breakpoints}
use Rattle.std.specs.Prelude.{List, ℕ, Option, None, Some, ◌≤◌, [], ◌∷◌, true, length, ◌≡◌, ◌<◌, ◌^◌}
use Rattle.pac_board_course.specs.Output.{Output}
use Rattle.pac_board_course.specs.State.{due_outputs_in}
use Rattle.pac_debug_session.specs.Running.{now_at, goes_at}
use Rattle.pac_board_course.specs.Stretches.{total_frames, most_frames}
use Rattle.pac_board_course.specs.SinksLaws.{Giving, Cut}

-- the outputs that are due, in the order in which they are offered
abbrev pub session_due_outputs : SessionValue → List Output
session_due_outputs s = due_outputs_in s.setting.set (now_at s.setting s.index).board s.due

-- the slots of a session, and the most breakpoints (this profile)
abbrev pub slot_count : ℕ
slot_count = 4

-- what holds of every session: the run goes on up to the furthest index, and slots keep what the session has seen
abbrev pub IsSeen : ℕ → Option ℕ → Type 0
IsSeen furthest None = Unit {0}
IsSeen furthest (Some index) = index ≤ furthest

abbrev pub AreSeen : ℕ → List (Option ℕ) → Type 0
AreSeen furthest [] = Unit {0}
AreSeen furthest (slot ∷ slots) = IsSeen furthest slot × AreSeen furthest slots

pub record IsSession (s : SessionValue) : Type 0 where
  pub short : total_frames s.setting.script ≤ most_frames
  pub within : s.index ≤ s.furthest
  pub goes : (earlier : ℕ) → earlier < s.furthest → goes_at s.setting earlier ≡ true
  pub slots : length s.slots ≡ slot_count
  pub seen : AreSeen s.furthest s.slots
  pub few : length s.breakpoints ≤ most_breakpoints
  pub counted : s.made < 2 ^ 64

-- What is due is offered to a sink. What is refused stays due, with what comes after it.
pub record IsSessionOfferRefused {S : Type 0} (to : Giving S) (old : SessionValue) (sink : S) (new : SessionValue) (later : S)
    : Type 0 where
  pub session : new ≡ record old { due = new.due }
  pub cut : Cut to sink (session_due_outputs old) (session_due_outputs new) later

-- a command begins, and has done no step again yet
abbrev pub session_at_command : SessionValue → SessionValue
session_at_command s = record s { replayed = 0 }
