-- Law: what is proved of the definitions of Motions.antt.
use Rattle.pac_board_course.specs.SinksLaws.{Giving, Cut}
use Rattle.pac_debug_session.specs.Session.{SessionValue}
use Rattle.pac_debug_session.specs.declared.motion.Motion.{Motion}
use Rattle.std.specs.Prelude.{ℕ, false, ◌≡◌, ◌≤◌, ◌+◌, true, ◌++◌}
use Rattle.pac_debug_session.specs.Motions.{rests, moved_to}
use Rattle.pac_debug_session.specs.Running.{outputs_between, goes_at}
use Rattle.pac_debug_session.specs.SessionLaws.{session_due_outputs}
use mathlib.Core.List.{IsPrefix}
use Rattle.pac_board_course.specs.declared.outcome.Outcome.{Outcome}
use Rattle.pac_board_course.specs.Course.{outcome_at}
use Rattle.pac_debug_session.specs.RunningLaws.{whole_run}

-- The sink refused an output: the session stands after the step that gave it, which is a new one, and at no index up to that step
-- does the motion rest. The output and what comes after it are due, and all that was given before was taken.
pub record IsTravelRefused {S : Type 0} (to : Giving S) (old : SessionValue) (motion : Motion) (sink : S) (new : SessionValue) (later : S)
    : Type 0 where
  pub last : ℕ
  pub index : new.index ≡ last + 1
  pub fresh : old.furthest ≤ last
  pub restless : (earlier : ℕ) → old.index ≤ earlier → earlier ≤ last → rests old motion old.index earlier ≡ false
  pub session : new ≡ record (moved_to old new.index) { due = new.due }
  pub cut : Cut to sink (outputs_between old.setting old.furthest new.index) (session_due_outputs new) later
  pub of_last : IsPrefix (outputs_between old.setting old.furthest last) cut.taken

-- what a session's run comes to
abbrev pub IsOutcome : SessionValue → Outcome → Type 0
IsOutcome s outcome = outcome ≡ outcome_at (whole_run s.setting).now (whole_run s.setting).stop

-- The sink refused: an output that was due before, or one of a new step.
pub record IsFinishRefused {S : Type 0} (to : Giving S) (old : SessionValue) (sink : S) (new : SessionValue) (later : S) : Type 0 where
  pub last : ℕ
  pub index : new.index ≡ last + 1
  pub fresh : old.furthest ≤ last
  pub restless : (earlier : ℕ) → old.index ≤ earlier → earlier ≤ last → goes_at old.setting earlier ≡ true
  pub session : new ≡ record (moved_to old new.index) { due = new.due; replayed = 0 }
  pub cut : Cut to sink (session_due_outputs old ++ outputs_between old.setting old.furthest new.index) (session_due_outputs new) later
  pub of_last : IsPrefix (session_due_outputs old ++ outputs_between old.setting old.furthest last) cut.taken
