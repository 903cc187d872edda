-- Law: the law of runs in parts, which is proved on a public function of the crate: a run whose end was saved, and that goes
-- on from the file with another script, gives what the run of both scripts at once gives.
use Rattle.std.specs.Prelude.{◌≡◌, ℕ, ◌+◌, ◌*◌, true, List, ◌++◌, Option, None, Some}
use Rattle.pac_board_course.specs.Step.{frame_samples}
use Rattle.pac_board_course.specs.State.{BoardValue}
use Rattle.pac_board_course.specs.Stop.{Stop}
use Rattle.pac_board_course.specs.Stretch.{Stretch}
use Rattle.pac_board_course.specs.Stretches.{total_frames}
use Rattle.pac_board_course.specs.declared.outcome.Outcome.{Outcome}
use Rattle.pac_run.specs.Plan.{Plan}
use Rattle.pac_run.specs.Resumes.{IsInOrder, contents_from, last_state, state_text}
use Rattle.pac_run.specs.Run.{RunContents, frames_text}
use Rattle.pac_run.specs.Start.{IsFirstBoard, has_room}
use Rattle.pac_run.specs.Texts as text

-- a plan with another script
abbrev pub with_script : Plan → List Stretch → Plan
with_script plan script = record plan { script = script }

-- a board in the state that a run's end was saved in
abbrev pub saved_board : Plan → (dip : ℕ) → (from : Option (List ℕ)) → BoardValue → BoardValue
saved_board plan dip from board = record { set = plan.set; state = last_state plan dip from board; made = 0 }

-- ---- the texts of two runs, and those of one

-- what a wave file has after its header
abbrev pub sound_after_header : RunContents → List ℕ
sound_after_header run = text.sound_text (frame_samples * run.frames) run.outputs

-- what two runs came to, one after another
abbrev pub outcomes_joined : (first second : Outcome) → Outcome
outcomes_joined first second = record {
  frames = first.frames + second.frames;
  steps = first.steps + second.steps;
  ticks = first.ticks + second.ticks;
  stop = second.stop;
}

-- The images of two runs, one after another, are those of one, and so are the samples; frames, steps and T-states add up to its own,
-- and it ends as the second does.
pub record AreOneRun (first second whole : RunContents) : Type 0 where
  pub images : frames_text first ++ frames_text second ≡ frames_text whole
  pub sound : sound_after_header first ++ sound_after_header second ≡ sound_after_header whole
  pub outcome : outcomes_joined first.outcome second.outcome ≡ whole.outcome

-- ---- a plan's run, and a second one from the state that it has saved

-- A second run that begins with this board: the run of both scripts can begin where the first did, and both together are that run, and
-- end with the same state file. What the second run is given as the DIP switches' byte has no meaning.
pub record JoinsFirst (plan : Plan) (dip : ℕ) (from : Option (List ℕ)) (board : BoardValue) (second : List Stretch) (other_dip : ℕ)
    (later : BoardValue) : Type 0 where
  pub begins : IsFirstBoard plan.set dip (plan.script ++ second) from board
  pub texts :
      AreOneRun (contents_from plan dip from board)
      (contents_from (with_script plan second) other_dip (Some (state_text plan dip from board)) later)
      (contents_from (with_script plan (plan.script ++ second)) dip from board)
  pub state :
      state_text (with_script plan second) other_dip (Some (state_text plan dip from board)) later
      ≡ state_text (with_script plan (plan.script ++ second)) dip from board
  -- so a third run, from the second's file, joins both
  pub in_order :
      IsInOrder (with_script plan second) other_dip (Some (state_text plan dip from board)) later
      → IsInOrder (with_script plan (plan.script ++ second)) dip from board

-- Where a run met no stop, a second one can begin with its state file if its frames have room, and each that does joins it.
pub record HasSecondPart (plan : Plan) (dip : ℕ) (from : Option (List ℕ)) (board : BoardValue) (second : List Stretch)
    (other_dip : ℕ) : Type 0 where
  pub taken_up :
      has_room (last_state plan dip from board) (total_frames second) ≡ true
      → IsFirstBoard plan.set other_dip second (Some (state_text plan dip from board)) (saved_board plan dip from board)
  pub joins :
      (later : BoardValue) → IsFirstBoard plan.set other_dip second (Some (state_text plan dip from board)) later
      → JoinsFirst plan dip from board second other_dip later

-- Where it met a stop, it gave all the images that the run of both scripts gives, and came to the same.
pub record StoppedBefore (plan : Plan) (dip : ℕ) (from : Option (List ℕ)) (board : BoardValue) (second : List Stretch) : Type 0 where
  pub images :
      frames_text (contents_from plan dip from board)
      ≡ frames_text (contents_from (with_script plan (plan.script ++ second)) dip from board)
  pub outcome :
      (contents_from plan dip from board).outcome ≡ (contents_from (with_script plan (plan.script ++ second)) dip from board).outcome

-- From power-on or from a state file, with whichever second script. What is in order is so of each run that was saved (`IsSaved`).
abbrev pub RunsInParts : Type 0
RunsInParts =
    (plan : Plan) (dip : ℕ) (from : Option (List ℕ)) (board : BoardValue) (second : List Stretch) (other_dip : ℕ)
    → IsFirstBoard plan.set dip plan.script from board → IsInOrder plan dip from board
    → ((contents_from plan dip from board).outcome.stop ≡ None → HasSecondPart plan dip from board second other_dip)
    × ((stop : Stop) → (contents_from plan dip from board).outcome.stop ≡ Some stop → StoppedBefore plan dip from board second)
