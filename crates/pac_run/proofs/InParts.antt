-- A plan's run whose end was saved, and that goes on from the file, is the run of both scripts at once.
use Rattle.pac_run.proofs.Common.{AreOneRun, BoardValue, Bool, Entry, IsFile, IsFirstBoard, IsInOrder, JoinsFirst, Limit, List, Midst, None}
use Rattle.pac_run.proofs.Common.{Option, Parts, Plan, Play, RunContents, RunsInParts, Some, StateFault, Stop, StoppedBefore, Stretch, Walk}
use Rattle.pac_run.proofs.Common.{[], ap, arith, blank_count, board_of_file, by_history, contents_from, end_state, frame_microseconds}
use Rattle.pac_run.proofs.Common.{frame_steps, frame_ticks, frames_gone, has_room, if◌then◌else◌, is_between_frames, last_state, latest}
use Rattle.pac_run.proofs.Common.{le-leb, most_asked, not, outcome_of, outcome_since, outputs-timed, picture_count, play_of, plays_joined}
use Rattle.pac_run.proofs.Common.{power_on_board, power_on_board_view, refl, resumed-runs-are-timed, resumed-runs-end, resumed_of, rules}
use Rattle.pac_run.proofs.Common.{run_from, run_of_play, runs-begin, saved_board, start_fault, state_text, stopped-runs-stay, subst, sym}
use Rattle.pac_run.proofs.Common.{text-board, total_frames, trace_of, true, with_script, without_history, written_version, ℕ, ◌*◌, ◌++◌}
use Rattle.pac_run.proofs.Common.{◌+◌, ◌-◌, ◌/◌, ◌∙◌, ◌≡◌, ◌≤◌}
use Rattle.std.proofs.lemmas.Bool.{and_from}
use Rattle.pac_run.proofs.Begins.{time-fits, asked-fits}
use Rattle.pac_run.proofs.Cut.{JoinsRuns, board_of_end, has-frames, runs-joined, still-between}
use Rattle.pac_run.proofs.Scripts.{play-joined, total-joined}
use Rattle.std.proofs.lemmas.Bool.Decides.{nat_tests}

-- ---- a run from power-on is one that is taken up there

module _ (plan : Plan) (dip : ℕ) where
  abbrev first_board : BoardValue
  first_board = power_on_board plan.set dip

  from-power-on : resumed_of plan first_board ≡ trace_of plan dip
  from-power-on = (runs-begin (by_history plan.set plan.items (power_on_board_view dip)) (play_of plan.script) []).whole

  -- a picture for each blank
  same-frames : picture_count (trace_of plan dip).outputs ≡ blank_count (trace_of plan dip).now.board
  same-frames =
      let ask = by_history plan.set plan.items (power_on_board_view dip) in
      let from = without_history first_board.state.now in
      let pictures = subst (λ (run : Walk (List Entry)). picture_count run.outputs + frames_gone from ≡ frames_gone run.now)
      ((resumed-runs-end ask (play_of plan.script) from).enough ∙ from-power-on)
      (resumed-runs-are-timed ask (play_of plan.script) from (frame_steps * total_frames plan.script)).pictures in
      let blanks = (outputs-timed plan.set plan.items dip (frame_steps * total_frames plan.script) (play_of plan.script)).blanks in
      omega (arith, pictures, blanks)

  less-none : (n : ℕ) → n - 0 ≡ n
  less-none n = omega arith

  same-outcome : outcome_since first_board (resumed_of plan first_board) ≡ outcome_of (trace_of plan dip)
  same-outcome = grind (arith, nat_tests, outcome_since, first_board, from-power-on, same-frames, less-none, trace_of)

-- ---- a run, told by what is taken up

abbrev contents_since : Plan → BoardValue → RunContents
contents_since plan board = record {
  outputs = (resumed_of plan board).outputs;
  frames = total_frames plan.script;
  listing = plan.listing;
  outcome = outcome_since board (resumed_of plan board);
}

-- From power-on the board is that of power-on; from a file any will do.
abbrev IsAtPowerOn : Parts → ℕ → (from : Option (List ℕ)) → BoardValue → Type 0
IsAtPowerOn set dip None board = board ≡ power_on_board set dip
IsAtPowerOn set dip (Some bytes) board = Unit {0}

at-power-on : (set : Parts) (dip : ℕ) (script : List Stretch) (from : Option (List ℕ)) (board : BoardValue)
    → IsFirstBoard set dip script from board → IsAtPowerOn set dip from board
at-power-on set dip script from board is = search rules

run-since : (plan : Plan) (dip : ℕ) (from : Option (List ℕ)) (board : BoardValue) → IsAtPowerOn plan.set dip from board
    → run_from plan dip from board ≡ resumed_of plan board
run-since plan dip None board is = sym (ap (resumed_of plan) is ∙ from-power-on plan dip)
run-since plan dip (Some bytes) board is = refl

contents-since : (plan : Plan) (dip : ℕ) (from : Option (List ℕ)) (board : BoardValue) → IsAtPowerOn plan.set dip from board
    → contents_from plan dip from board ≡ contents_since plan board
contents-since plan dip None board is = sym (ap (contents_since plan) is ∙ (λ i. record {
  outputs = (from-power-on plan dip i).outputs;
  frames = total_frames plan.script;
  listing = plan.listing;
  outcome = same-outcome plan dip i;
}))
contents-since plan dip (Some bytes) board is = refl

-- it begins between two frames
starts-between : (plan : Plan) (dip : ℕ) (from : Option (List ℕ)) (board : BoardValue) → IsFirstBoard plan.set dip plan.script from board
    → is_between_frames board.state ≡ true
starts-between plan dip from board is = search rules

-- ---- where a run can begin

no-fault : (between room : Bool) → between ≡ true → room ≡ true
    → ◌≡◌ {A = Option StateFault} (if not between then Some Midst else if not room then Some Limit else None) None
no-fault between room is has = rw (is, has) refl

begins-with : (set : Parts) (dip : ℕ) (script longer : List Stretch) (from : Option (List ℕ)) (board : BoardValue)
    → IsFirstBoard set dip script from board → start_fault board.state (total_frames longer) ≡ None → IsFirstBoard set dip longer from board
begins-with set dip script longer from board is none = search rules

-- ---- a run that was saved, and the one after it

module _ (plan : Plan) (dip : ℕ) (from : Option (List ℕ)) (board : BoardValue) (second : List Stretch) (other_dip : ℕ)
    (first : IsFirstBoard plan.set dip plan.script from board) (order : IsInOrder plan dip from board) where
  abbrev saved : BoardValue
  saved = saved_board plan dip from board

  at-first : IsAtPowerOn plan.set dip from board
  at-first = at-power-on plan.set dip plan.script from board first

  abbrev bytes : List ℕ
  bytes = state_text plan dip from board

  abbrev one_play : Play
  one_play = play_of plan.script

  abbrev both : List Stretch
  both = plan.script ++ second

  -- What was saved is a file of this board alone.
  abbrev file : IsFile plan.set bytes
  file = record { version = written_version; known = refl; state = last_state plan dip from board; is_state = order.ends; text = refl }

  board-is : (told : IsFile plan.set bytes) → saved ≡ board_of_file plan.set told
  board-is told = sym (text-board plan.set bytes file) ∙ text-board plan.set bytes told

  same-both : resumed_of (with_script plan both) board ≡ run_of_play plan.set plan.items (plays_joined one_play (play_of second)) board
  same-both = ap (λ play. run_of_play plan.set plan.items play board) (play-joined plan.script second)

  module _ (no_stop : (contents_from plan dip from board).outcome.stop ≡ None) where
    open-yet : (resumed_of plan board).stop ≡ None
    open-yet = sym (ap (λ (run : RunContents). run.outcome.stop) (contents-since plan dip from board at-first)) ∙ no_stop

    between : is_between_frames board.state ≡ true
    between = starts-between plan dip from board first

    abbrev taken : BoardValue
    taken = board_of_end plan.set one_play board (resumed_of plan board)

    saved-is : saved ≡ taken
    saved-is = ap (board_of_end plan.set one_play board) (run-since plan dip from board at-first)

    still : is_between_frames saved.state ≡ true
    still =
        subst (λ (board : BoardValue). is_between_frames board.state ≡ true) (sym saved-is)
        (still-between plan.set plan.items one_play (play_of second) board order.whole order.lie order.starts between open-yet)

    pub can-go-on : has_room saved.state (total_frames second) ≡ true → IsFirstBoard plan.set other_dip second (Some bytes) saved
    can-go-on room = record {
      file = file;
      board_is = board-is;
      begins = no-fault (is_between_frames saved.state) (has_room saved.state (total_frames second)) still room;
    }

    module _ (later : BoardValue) (resumes : IsFirstBoard plan.set other_dip second (Some bytes) later) where
      later-is : later ≡ taken
      later-is = resumes.board_is file ∙ sym (board-is file) ∙ saved-is

      -- Both runs at once have room where the second has.
      begins-there : start_fault taken.state (total_frames second) ≡ None
      begins-there = rw later-is at resumes.begins

      begins-both : start_fault board.state (total_frames both) ≡ None
      begins-both =
          let frames = total-joined plan.script second in
          let gone = (has-frames plan.set plan.items one_play (play_of second) board order.whole order.lie order.starts between
          open-yet).gone in
          let time_fits : frame_ticks * (board.state.now.time / frame_ticks + total_frames both) ≤ latest =
          omega (arith, frames, gone, time-fits taken.state (total_frames second) begins-there) in
          let asked_fits : board.state.asked + frame_microseconds * total_frames both ≤ most_asked =
          omega (arith, frames, gone, asked-fits taken.state (total_frames second) begins-there) in
          grind (arith, between, and_from, le-leb, no-fault)

      joined : JoinsRuns plan.set one_play (play_of second) board taken (resumed_of plan board)
          (run_of_play plan.set plan.items (play_of second) taken)
          (run_of_play plan.set plan.items (plays_joined one_play (play_of second)) board)
      joined =
          runs-joined plan.set plan.items one_play (play_of second) board order.whole order.lie order.starts between open-yet
          (grind (arith, saved-is))

      abbrev whole_contents : RunContents
      whole_contents =
          let run = run_of_play plan.set plan.items (plays_joined one_play (play_of second)) board in
          record {
            outputs = run.outputs;
            frames = total_frames plan.script + total_frames second;
            listing = plan.listing;
            outcome = outcome_since board run;
          }

      whole-is : contents_from (with_script plan both) dip from board ≡ whole_contents
      whole-is = grind (arith, at-first, contents-since, same-both, total-joined)

      texts : AreOneRun (contents_from plan dip from board) (contents_from (with_script plan second) other_dip (Some bytes) later)
          (contents_from (with_script plan both) dip from board)
      texts =
          let one_is = contents-since plan dip from board at-first in
          let two_is = ap (contents_since (with_script plan second)) later-is in grind (arith, joined, whole-is)

      last-states : last_state (with_script plan second) other_dip (Some bytes) later ≡ last_state (with_script plan both) dip from board
      last-states =
          ap (λ board. end_state plan.set (total_frames second) board (resumed_of (with_script plan second) board)) later-is
          ∙ joined.state
          ∙ sym (grind (arith, at-first, run-since, same-both, total-joined))

      pub joins-first : JoinsFirst plan dip from board second other_dip later
      joins-first =
          let first_both = begins-with plan.set dip plan.script both from board first begins-both in grind (arith, last-states, texts)

  -- A run that met a stop is that of both scripts.
  module _ (stop : Stop) (met : (contents_from plan dip from board).outcome.stop ≡ Some stop) where
    stays : resumed_of (with_script plan both) board ≡ resumed_of plan board
    stays =
        same-both
        ∙ stopped-runs-stay (by_history plan.set plan.items board.state.now.board) one_play (play_of second)
        (without_history board.state.now) stop
        (sym (ap (λ (run : RunContents). run.outcome.stop) (contents-since plan dip from board at-first)) ∙ met)

    pub stopped-before : StoppedBefore plan dip from board second
    stopped-before = grind (arith, at-first, contents-since, stays)

-- ---- the law

pub runs-in-parts : RunsInParts
runs-in-parts plan dip from board second other_dip first order = (
  λ no_stop. record {
    taken_up = can-go-on plan dip from board second other_dip first order no_stop;
    joins = joins-first plan dip from board second other_dip first order no_stop;
  },
  stopped-before plan dip from board second other_dip first order,
)
