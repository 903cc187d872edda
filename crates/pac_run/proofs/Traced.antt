-- A course's run, and a session's, is that of the plan.
use Rattle.pac_run.proofs.Common.{Assembled, BoardValue, BoardView, CourseValue, Entry, IsBoard, IsFirstBoard, IsOutcome, IsReady}
use Rattle.pac_run.proofs.Common.{IsSeenThrough, IsWhole, List, None, Option, Outcome, Parts, Plan, PlaysProgram, RunInputs, SessionValue}
use Rattle.pac_run.proofs.Common.{Some, Stretch, Walk, [], ap, arith, begun, board_after_entries, board_asked, by_history, by_view}
use Rattle.pac_run.proofs.Common.{contents_from, course_after, course_contents, courses-begin, end_of, end_state, frame_steps, frame_ticks}
use Rattle.pac_run.proofs.Common.{frames_gone, held_in, most_frames, next_in, outcome_between, outcome_of, outputs-timed, picture_count}
use Rattle.pac_run.proofs.Common.{plan_with, play-timely, play_of, power-on-board, power_on_board_view, program_items, refl}
use Rattle.pac_run.proofs.Common.{resumed-runs-agree, resumed-runs-are-timed, resumed-runs-end, resumed_of, rules, run_at, run_from}
use Rattle.pac_run.proofs.Common.{runs-agree, setting_of_plan, steps-agree, subst, sym, total_frames, trace, trace_of, walk-below}
use Rattle.pac_run.proofs.Common.{walk_view, way_on, whole_run, without_history, ℕ, ◌*◌, ◌+◌, ◌-◌, ◌/◌, ◌<◌, ◌^◌, ◌≡◌, ◌≤◌}

-- ---- from power-on

-- what a plan's set, program and script come to on a board from power-on, told by the view, is its trace
module _ (inputs : RunInputs) (program : Option Assembled) (set : Parts) (script : List Stretch) (whole : IsWhole set)
    (lie : PlaysProgram set program) where
  abbrev plan : Plan
  plan = plan_with inputs program set script

  abbrev shown : Walk BoardView
  shown = trace (by_view set) (play_of script) (power_on_board_view inputs.dip)

  pub same-trace : shown ≡ walk_view (board_after_entries set (power_on_board_view inputs.dip)) (trace_of plan inputs.dip)
  same-trace = sym (runs-agree set (program_items program) inputs.dip (frame_steps * total_frames script) (play_of script) whole lie)

  -- a frame has gone by for each blank among the entries
  pub same-blanks : (trace_of plan inputs.dip).now.time / frame_ticks ≡ (outcome_of (trace_of plan inputs.dip)).frames
  same-blanks = sym (outputs-timed set (program_items program) inputs.dip (frame_steps * total_frames script) (play_of script)).blanks

-- ---- from the board that a run begins with

module _ (inputs : RunInputs) (program : Option Assembled) (board : BoardValue) (script : List Stretch) (whole : IsWhole board.set)
    (lie : PlaysProgram board.set program) (holds : IsBoard board.state.now.board) where
  abbrev played : Plan
  played = plan_with inputs program board.set script

  abbrev viewed : Walk (List Entry) → Walk BoardView
  viewed = walk_view (board_after_entries board.set board.state.now.board)

  -- What a course has left is the plan's run, told by the view.
  run-viewed : (from : Option (List ℕ)) → IsFirstBoard board.set inputs.dip script from board
      → way_on (begun board script) ≡ viewed (run_from played inputs.dip from board)
  run-viewed None is = cc (is, courses-begin board.set inputs.dip script, same-trace inputs program board.set script whole lie)
  run-viewed (Some bytes) taken =
      sym (resumed-runs-agree board.set (program_items program) board.state.now.board (play_of script)
      (without_history board.state.now) whole lie holds).whole

  -- The outcome counts from where it began.
  counts : (from : Option (List ℕ)) → IsFirstBoard board.set inputs.dip script from board
      → let end = run_from played inputs.dip from board in
      (end.now.time / frame_ticks - board.state.now.time / frame_ticks
      ≡ (contents_from played inputs.dip from board).outcome.frames)
      × (end.now.steps - board.state.now.steps ≡ (contents_from played inputs.dip from board).outcome.steps)
      × (end.now.time - board.state.now.time ≡ (contents_from played inputs.dip from board).outcome.ticks)
  counts None is =
      let time : board.state.now.time ≡ 0 = ap (λ (board : BoardValue). board.state.now.time) is in
      let steps : board.state.now.steps ≡ 0 = ap (λ (board : BoardValue). board.state.now.steps) is in
      let blanks = same-blanks inputs program board.set script whole lie in
      (omega (arith, time, blanks), omega (arith, steps), omega (arith, time))
  counts (Some bytes) taken =
      let from = without_history board.state.now in
      let ask = by_history board.set (program_items program) board.state.now.board in
      let timed = (resumed-runs-are-timed ask (play_of script) from (frame_steps * total_frames script)).pictures in
      let all = (resumed-runs-end ask (play_of script) from).enough in
      let pictures : picture_count (resumed_of played board).outputs + frames_gone from ≡ frames_gone (resumed_of played board).now =
      subst (λ (run : Walk (List Entry)). picture_count run.outputs + frames_gone from ≡ frames_gone run.now) all timed in
      (omega (arith, pictures), refl, refl)

  same-outcome : (from : Option (List ℕ)) → IsFirstBoard board.set inputs.dip script from board
      → let end = run_from played inputs.dip from board in
      outcome_between board.state.now.time board.state.now.steps (viewed end).now end.stop
      ≡ (contents_from played inputs.dip from board).outcome
  same-outcome from is = grind (arith, counts)

  pub same-contents : (from : Option (List ℕ)) → IsFirstBoard board.set inputs.dip script from board
      → course_contents inputs program (begun board script) ≡ contents_from played inputs.dip from board
  same-contents from first = grind (arith, run-viewed, same-outcome)

  -- The state at its end is that of the course's board.
  pub same-state : (from : Option (List ℕ)) → IsFirstBoard board.set inputs.dip script from board
      → let course = begun board script in
      (board_asked (course_after course (way_on course))).state
      ≡ end_state board.set (total_frames script) board (run_from played inputs.dip from board)
  same-state from first = grind (arith, run-viewed)

-- ---- how far a course goes

-- A run ends before another frame than its last one is over.
pub is-near : (course : CourseValue) → course.gone ≡ course.board.state.now.time / frame_ticks → total_frames course.script ≤ most_frames
    → (way_on course).now.time / frame_ticks < course.board.state.now.time / frame_ticks + 2 ^ 32
is-near course gone few =
    let bound = end_of course + frame_ticks in
    let near = walk-below (next_in course) (end_of course) (play-timely (by_view course.board.set) (held_in course)) bound
    (omega arith) course.board.state.now (end_of course) (omega (arith, gone)) in
    omega (arith, near, gone, few)

-- ---- a session's run
module _ (inputs : RunInputs) (program : Option Assembled) (session : SessionValue) (ready : IsReady inputs program session) where
  abbrev session_plan : Plan
  session_plan = plan_with inputs program session.setting.set session.setting.script

  shown-whole : whole_run session.setting ≡ shown inputs program session.setting.set session.setting.script ready.whole ready.lie
  shown-whole = search rules

  pub session-outputs : (whole_run session.setting).outputs ≡ (trace_of session_plan inputs.dip).outputs
  session-outputs = cc (shown-whole, same-trace inputs program session.setting.set session.setting.script ready.whole ready.lie)

  pub session-outcome : (outcome : Outcome) → IsOutcome session outcome → outcome ≡ outcome_of (trace_of session_plan inputs.dip)
  session-outcome outcome is =
      let traced = same-trace inputs program session.setting.set session.setting.script ready.whole ready.lie in
      let blanks = same-blanks inputs program session.setting.set session.setting.script ready.whole ready.lie in grind (arith, shown-whole)

  pub seen-through : IsSeenThrough session_plan inputs.dip
  seen-through index =
      let set = session.setting.set in
      let script = session.setting.script in
      let items = program_items program in
      let first = power_on_board_view inputs.dip in
      let told = run_at (by_history set items first) (play_of script) [] index in
      let same = sym (runs-agree set items inputs.dip index (play_of script) ready.whole ready.lie) in
      let next = steps-agree set items first told.now ready.whole ready.lie (power-on-board inputs.dip) in search rules

  pub same-setting : setting_of_plan session_plan inputs.dip ≡ session.setting
  same-setting = λ i. record { set = session.setting.set; switches = sym ready.switches i; script = session.setting.script }
