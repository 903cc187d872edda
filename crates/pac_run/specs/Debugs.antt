-- Believed: what a run under a debugger writes, tells and answers.
use Rattle.std.specs.Prelude.{◌≡◌, ℕ, List, [], Result, Ok, Err}
use Rattle.std.specs.Str.Lines.{lines}
use Rattle.pac_board_course.specs.Stretches.{total_frames, held}
use Rattle.pac_board_course.specs.Entry.{Entry}
use Rattle.pac_debug.specs.Running.{Setting, play_of, run, next_at}
use Rattle.pac_board_course.specs.BoardView.{power_on_board_view}
use Rattle.pac_board_course.specs.Carried.{next_view, walk_view}
use Rattle.pac_board_course.specs.History.{board_after_entries}
use Rattle.pac_board_course.specs.Output.{Output as Given}
use Rattle.pac_board_course.specs.Step.{Next}
use Rattle.pac_board_course.specs.Trace.{by_history, run_at, play_step}
use Rattle.pac_board_course.specs.Walk.{Walk}
use Rattle.pac_run.specs.declared.fault.Output.{Output}
use Rattle.pac_run.specs.declared.fault.Output.TheVariants.{Frames, Wave, Listing, Report, State, Text}
use Rattle.pac_run.specs.declared.fault.RunFault.{RunFault}
use Rattle.pac_run.specs.declared.fault.RunFault.TheVariants as fault
use Rattle.pac_run.specs.declared.inputs.RunInputs.{RunInputs}
use Rattle.pac_board_course.specs.declared.outcome.Outcome.{Outcome}
use Rattle.pac_run.specs.Plan.{Plan, plan_of}
use Rattle.pac_run.specs.Run.{Writing, Writings, TakesText, IsUnwritten, NothingWritten, IsRunWhole, IsCutAt}
use Rattle.pac_run.specs.Run.{WithPlan, contents_of, shown_before, trace_of}
use Rattle.pac_run.specs.Watched.{AllTold, ToldTill, ToldAtWave, IsLineUntold}

-- the run that the session of a plan looks at
abbrev pub setting_of_plan : Plan → ℕ → Setting
setting_of_plan plan dip = record { set = plan.set; switches = dip; script = plan.script }

-- the trace of a plan up to an index, told by its history
abbrev pub trace_up_to : Plan → ℕ → (index : ℕ) → Walk (List Entry)
trace_up_to plan dip index = run_at (by_history plan.set plan.items (power_on_board_view dip)) (play_of plan.script) [] index

-- what the trace's next step from an index comes to: the instruction is that of the source's item that begins at PC, if any
abbrev pub trace_next : Plan → ℕ → (index : ℕ) → Next (List Entry)
trace_next plan dip index =
    play_step (by_history plan.set plan.items (power_on_board_view dip)) (held plan.script) (trace_up_to plan dip index).now

-- At an index the session's run is the trace of the plan, seen as a board keeps it; and so is its next step, with the kind of it and
-- the instruction that is told.
pub record IsSeenAt (plan : Plan) (dip index : ℕ) : Type 0 where
  pub run_is : run (setting_of_plan plan dip) index
      ≡ walk_view (board_after_entries plan.set (power_on_board_view dip)) (trace_up_to plan dip index)
  pub next_is : next_at (setting_of_plan plan dip) index
      ≡ next_view (board_after_entries plan.set (power_on_board_view dip)) (trace_next plan dip index)

abbrev pub IsSeenThrough : Plan → ℕ → Type 0
IsSeenThrough plan dip = (index : ℕ) → IsSeenAt plan dip index

-- ---- the text of the session

-- the text's writer took exactly what the session tells of all lines of the commands
abbrev pub HasTold : {T : Type 0} → Plan → ℕ → (commands : List ℕ) → Writing T → Type 0
HasTold plan dip commands text = AllTold text (setting_of_plan plan dip) (lines commands)

-- the text's writer took what those lines tell that need no more of the run's outputs than these; the next line needs more
abbrev pub HasToldTill : {T : Type 0} → Plan → ℕ → (commands : List ℕ) → Writing T → (given : List Given) → Type 0
HasToldTill plan dip commands text given = ToldTill text (setting_of_plan plan dip) (lines commands) given

-- what was told where the wave's writer had taken so many bytes
abbrev pub HasToldAtWave : {T : Type 0} → Plan → ℕ → (commands : List ℕ) → Writing T → (taken : ℕ) → Type 0
HasToldAtWave plan dip commands text taken =
    ToldAtWave text (setting_of_plan plan dip) (lines commands) (trace_of plan dip).outputs taken

-- The text's writer refused within what one line tells.
abbrev pub IsUntold : {F W L R T : Type 0} → Plan → ℕ → (commands : List ℕ) → Writings F W L R → Writing T → ℕ → Type 0
IsUntold plan dip commands to text count =
    IsLineUntold to.frames to.wave text (total_frames plan.script) (trace_of plan dip).outputs (setting_of_plan plan dip) (lines commands)
    count

-- ---- the run, by its answer

-- Done: the four files are exactly those of the run without a session, and the text is what a session over that run tells.
pub record IsDebugged {F W L R T : Type 0} (plan : Plan) (dip : ℕ) (commands : List ℕ) (to : Writings F W L R) (text : Writing T)
    (outcome : Outcome) : Type 0 where
  pub files : IsRunWhole (contents_of plan dip) to outcome
  pub seen : IsSeenThrough plan dip
  pub told : HasTold plan dip commands text

-- a refused write, by its output: what a run leaves then, and what the session has told till then
abbrev pub IsBrokenAt : {F W L R T : Type 0} → Plan → ℕ → (commands : List ℕ) → Writings F W L R → Writing T → Output → ℕ → Type 0
IsBrokenAt plan dip commands to text Listing count = IsCutAt (contents_of plan dip) to Listing count × IsUnwritten text
IsBrokenAt plan dip commands to text Report count = IsCutAt (contents_of plan dip) to Report count × HasTold plan dip commands text
IsBrokenAt plan dip commands to text State count = ⊥
IsBrokenAt plan dip commands to text Text count = record {
  listing : TakesText to.listing plan.listing;
  report : IsUnwritten to.report;
  untold : IsUntold plan dip commands to text count;
}
IsBrokenAt plan dip commands to text Frames count =
    (files : IsCutAt (contents_of plan dip) to Frames count)
    × HasToldTill plan dip commands text (shown_before files.film.images.taken (trace_of plan dip).outputs)
IsBrokenAt plan dip commands to text Wave count =
    (files : IsCutAt (contents_of plan dip) to Wave count) × HasToldAtWave plan dip commands text files.film.sound.taken

abbrev pub Debugs : {F W L R T : Type 0} → RunInputs → (commands : List ℕ) → Writings F W L R → Writing T → Result Outcome RunFault → Type 0
Debugs inputs commands to text (Ok outcome) = WithPlan inputs (λ plan. IsDebugged plan inputs.dip commands to text outcome)
Debugs inputs commands to text (Err (fault.Write output count)) =
    WithPlan inputs (λ plan. IsSeenThrough plan inputs.dip × IsBrokenAt plan inputs.dip commands to text output count)
Debugs inputs commands to text (Err fault.NoMemory) = NothingWritten to × IsUnwritten text
Debugs inputs commands to text (Err refusal) = (plan_of inputs ≡ Err refusal) × NothingWritten to × IsUnwritten text
