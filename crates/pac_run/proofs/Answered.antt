-- The answers of a run, one by one.
use Rattle.pac_run.proofs.Common.{Assembled, BoardState, BoardValue, CourseValue, Err, IsFirstBoard, IsUnwritten, List, None}
use Rattle.pac_run.proofs.Common.{NothingWritten, Ok, Option, Outcome, Plan, Prepares, Result, Resumes, RunContents, RunEnd, RunFault}
use Rattle.pac_run.proofs.Common.{RunInputs, Runs, RunsTo, ScriptFault, StopsInText, Stretch, TakesText, WritesPlay, WritesRun, Writing}
use Rattle.pac_run.proofs.Common.{Writings, arith, contents_from, course_contents, course_playing, end_state, plan_of, played, rules}
use Rattle.pac_run.proofs.Common.{run_from, save_text, script_told, subst, total_frames, written_version, ℕ, ◌≡◌}
use Rattle.pac_run.specs.declared.fault.Output.TheVariants as which
use Rattle.pac_run.specs.declared.fault.RunFault.TheVariants as fault

-- ---- judging tells of no refused write and of no state

abbrev pub NoWrite : {A : Type 0} → Result A RunFault → Type 0
NoWrite (Err (fault.Write output count)) = ⊥
NoWrite (Err (fault.State refused)) = ⊥
NoWrite _ = Unit {0}

pub script-writes : (result : Result (List Stretch) ScriptFault) → NoWrite (script_told result)
script-writes result = search rules

pub plan-writes : (inputs : RunInputs) → NoWrite (plan_of inputs)
unfolding plan_of
plan-writes inputs = search rules

-- ---- a course's run is written

module _ {F W L R : Type 0} (to : Writings F W L R) (inputs : RunInputs) (program : Option Assembled) (old new : CourseValue) where
  abbrev run : RunContents
  run = course_contents inputs program old

  pub written : (answer : Result Outcome RunFault) → WritesPlay (played course_playing old new) run.listing to answer
      → WritesRun run to answer
  written answer it = search rules

-- ---- a run from power-on or from a state file

module _ {F W L R : Type 0} (to : Writings F W L R) (inputs : RunInputs) (from : Option (List ℕ)) where
  pub unbegun : (why : RunFault) → Prepares inputs from (Err why) → NothingWritten to → RunsTo inputs from to (Err why)
  unbegun (fault.Write output count) is none = absurd (subst NoWrite is (plan-writes inputs))
  unbegun fault.NoMemory is none = none
  unbegun why is none = (is, none)

  pub broke-off : (plan : Plan) → plan_of inputs ≡ Ok plan → (board : BoardValue) → IsFirstBoard plan.set inputs.dip plan.script from board
      → (why : RunFault) → WritesRun (contents_from plan inputs.dip from board) to (Err why) → RunsTo inputs from to (Err why)
  broke-off plan plan_is board first why written = grind (arith, written)

-- from power-on
module _ {F W L R : Type 0} (to : Writings F W L R) (inputs : RunInputs) where
  pub failed : (why : RunFault) → RunsTo inputs None to (Err why) → Runs inputs to (Err why)
  failed why runs = search rules

-- ---- a run whose end is saved

module _ {F W L R S : Type 0} (to : Writings F W L R) (state : Writing S) (inputs : RunInputs) (from : Option (List ℕ)) where
  pub unsaved : (why : RunFault) → RunsTo inputs from to (Err why) → IsUnwritten state → Resumes inputs from to state (Err why)
  unsaved why runs none = search rules

  -- all before the state is written
  module _ (it : RunEnd) (runs : RunsTo inputs from to (Ok it)) where
    abbrev bytes : List ℕ
    bytes = save_text written_version it.board.value.set it.board.value.state

    abbrev end : BoardState
    end = end_state runs.plan.set (total_frames runs.plan.script) runs.holds.board (run_from runs.plan inputs.dip from runs.holds.board)

    pub saved : TakesText state bytes → Resumes inputs from to state (Ok it.outcome)
    saved takes = search rules

    pub save-refused : (count : ℕ) → StopsInText state bytes count → Resumes inputs from to state (Err (fault.Write which.State count))
    save-refused count stops = search rules
