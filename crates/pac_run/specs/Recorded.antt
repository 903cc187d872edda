-- For proofs: what recording a player's outputs leaves of frames and wave, side by side, and of the player; and a whole run.
use Rattle.std.specs.Prelude.{◌≡◌, ℕ, ◌<◌, ◌≤◌, ◌*◌, List, [], ◌++◌, Option, option_copied, Result, Ok, Err}
use mathlib.Core.List.{IsPrefix}
use Rattle.pac_board_course.specs.Stretches.{total_frames}
use Rattle.pac_media.specs.CountedLaws.{HasTaken}
use Rattle.pac_media.specs.WriteFault.{WriteFault}
use Rattle.pac_media.specs.Samples.{header_size, wav_header}
use Rattle.pac_media.specs.Sound.{Delivers, SoundFails}
use Rattle.pac_board_course.specs.Output.{Output, picture_count}
use Rattle.pac_board_course.specs.Step.{frame_samples}
use Rattle.pac_board_course.specs.Course.{CourseValue, way_on}
use Rattle.pac_asm.specs.Assembled.{Assembled}
use Rattle.pac_run.specs.declared.inputs.RunInputs.{RunInputs}
use Rattle.pac_run.specs.Plan.{Plan, IsStateRefused, listing_in, plan_of}
use Rattle.pac_run.specs.Playing.{Played, course_outcome}
use Rattle.pac_run.specs.declared.fault.Output.{Output as Which}
use Rattle.pac_run.specs.declared.fault.Output.TheVariants as which
use Rattle.pac_run.specs.declared.fault.OutputFault.{OutputFault}
use Rattle.pac_run.specs.declared.fault.RunFault.{RunFault}
use Rattle.pac_run.specs.declared.fault.RunFault.TheVariants as fault
use Rattle.pac_run.specs.declared.film.Film.{Film}
use Rattle.pac_run.specs.declared.run.RunEnd.{RunEnd}
use Rattle.pac_board_course.specs.State.{BoardValue}
use Rattle.pac_board_course.specs.declared.outcome.Outcome.{Outcome}
use Rattle.pac_run.specs.Resumes.{IsInOrder, WithFirstBoard, contents_from, end_state, run_from}
use Rattle.pac_run.specs.Run.{Writing, Writings, RunContents, TakesText, StopsInText, FramesStop, WaveStops, IsRunWhole, IsCutAt}
use Rattle.pac_run.specs.Run.{IsUnwritten, NothingWritten, WithPlan, heard_before, shown_before, writing}
use Rattle.pac_run.specs.Texts as text
use Rattle.pac_run.specs.Watched.{HasSoundOf}

-- ---- frames and wave

-- a film's two files: what their writers say of themselves, and were before the first byte
pub record Reel (F W : Type 0) : Type 1 where
  pub took_f : F → List ℕ → F → Type 0
  pub refused_f : F → F → Type 0
  pub took_w : W → List ℕ → W → Type 0
  pub refused_w : W → W → Type 0
  pub frames : F
  pub wave : W

abbrev pub reel : {F W : Type 0} → (F → List ℕ → F → Type 0) → (F → F → Type 0) → (W → List ℕ → W → Type 0) → (W → W → Type 0)
    → (frames : F) → (wave : W) → Reel F W
reel took_f refused_f took_w refused_w frames wave = record {
  took_f = took_f;
  refused_f = refused_f;
  took_w = took_w;
  refused_w = refused_w;
  frames = frames;
  wave = wave;
}

-- its writers, before the first byte and now
abbrev pub shown_by : {F W : Type 0} → Reel F W → Film F W → Writing F
shown_by at film = writing at.took_f at.refused_f at.frames film.frames.writer

abbrev pub heard_by : {F W : Type 0} → Reel F W → Film F W → Writing W
heard_by at film = writing at.took_w at.refused_w at.wave film.wave.file.writer

-- a film whose wave file has its header, and nothing else is written
pub record HasBegun {F W : Type 0} (at : Reel F W) (total : ℕ) (film : Film F W) : Type 0 where
  pub images : HasTaken at.took_f at.frames [] film.frames
  pub header : HasTaken at.took_w at.wave (wav_header (frame_samples * total)) film.wave.file
  pub none_waits : film.wave.waiting ≡ []
  pub owed : film.wave.owed ≡ frame_samples * total

-- The wave file was given these bytes, and all that waited is written; or its writer refused within that.
pub record SoundBroke {F W : Type 0} (took : W → List ℕ → W → Type 0) (refused : W → W → Type 0) (old : Film F W) (bytes : List ℕ)
    (fault : OutputFault) (new : Film F W) : Type 0 where
  pub told : WriteFault
  pub wave : SoundFails took refused old.wave bytes told new.wave
  pub fault_is : fault ≡ record { output = which.Wave; count = told.count }

abbrev pub WritesSound : {F W A : Type 0} → (W → List ℕ → W → Type 0) → (W → W → Type 0) → Film F W → List ℕ
    → Result A OutputFault → Film F W → Type 0
WritesSound took refused old bytes (Ok done) new = Delivers took old.wave bytes new.wave
WritesSound took refused old bytes (Err fault) new = SoundBroke took refused old bytes fault new

-- ---- what a player gave to both

-- The wave's writer refused past its header: besides the outputs that it has heard samples had been given that waited, but no picture.
pub record IsToldAsHeard (play : Played) (heard : List Output) : Type 0 where
  pub waiting : List Output
  pub among : IsPrefix (heard ++ waiting) play.gives
  pub no_picture : picture_count waiting ≡ 0
  pub told : play.told (heard ++ waiting)

-- The wave's writer refused. Where that is within its header nothing was played.
pub record WaveBreaks {F W : Type 0} (play : Played) (frames : Writing F) (wave : Writing W) (count : ℕ) : Type 0 where
  pub film : WaveStops frames wave play.frames play.gives count
  pub header_first : film.sound.taken < header_size → play.unplayed
  pub past : header_size ≤ film.sound.taken → IsToldAsHeard play (heard_before film.sound.taken play.gives)

-- The player's text was refused: what waited of the sound is written.
pub record TextBreaks {F W : Type 0} (play : Played) (frames : Writing F) (wave : Writing W) (count : ℕ) : Type 0 where
  pub taken : List Output
  pub among : IsPrefix taken play.gives
  pub untold : play.untold taken count
  pub images : TakesText frames (text.images_text taken)
  pub sound : HasSoundOf wave play.frames taken

-- by the output that refused
abbrev pub BreaksPlay : {F W : Type 0} → Played → Writing F → Writing W → Which → ℕ → Type 0
BreaksPlay play frames wave which.Frames count =
    (film : FramesStop frames wave play.frames play.gives count) × play.told (shown_before film.images.taken play.gives)
BreaksPlay play frames wave which.Wave count = WaveBreaks play frames wave count
BreaksPlay play frames wave which.Text count = TextBreaks play frames wave count
BreaksPlay play frames wave other count = ⊥

-- the images and the sound of all outputs
pub record HasPlayed {F W : Type 0} (play : Played) (frames : Writing F) (wave : Writing W) (outcome : Outcome) : Type 0 where
  pub images : TakesText frames (text.images_text play.gives)
  pub sound : TakesText wave (text.wave_file_text play.frames play.gives)
  pub done : play.done outcome

abbrev pub RecordsPlay : {F W : Type 0} → Played → Writing F → Writing W → Result Outcome OutputFault → Type 0
RecordsPlay play frames wave (Ok outcome) = HasPlayed play frames wave outcome
RecordsPlay play frames wave (Err fault) = BreaksPlay play frames wave fault.output fault.count

-- a film that had begun, over whichever writers
abbrev pub PerformsFilm : {F W : Type 0} → (F → List ℕ → F → Type 0) → (F → F → Type 0) → (W → List ℕ → W → Type 0) → (W → W → Type 0)
    → Played → Film F W → Result Outcome OutputFault → Film F W → Type 0
PerformsFilm took_f refused_f took_w refused_w play old answer new =
    (frames : _) (wave : _) → HasBegun (reel took_f refused_f took_w refused_w frames wave) play.frames old
    → RecordsPlay play (writing took_f refused_f frames new.frames.writer) (writing took_w refused_w wave new.wave.file.writer) answer

-- ---- listing and report, too

abbrev pub WritesPlay : {F W L R : Type 0} → Played → (listed : List ℕ) → Writings F W L R → Result Outcome RunFault → Type 0
WritesPlay play listed to (Ok outcome) = record {
  listing : TakesText to.listing listed;
  film : HasPlayed play to.frames to.wave outcome;
  report : TakesText to.report (text.report outcome play.frames);
}
WritesPlay play listed to (Err (fault.Write which.Listing count)) = record {
  listing : StopsInText to.listing listed count;
  frames : IsUnwritten to.frames;
  wave : IsUnwritten to.wave;
  report : IsUnwritten to.report;
  unplayed : play.unplayed;
}
WritesPlay play listed to (Err (fault.Write which.Report count)) = record {
  listing : TakesText to.listing listed;
  outcome : Outcome;
  film : HasPlayed play to.frames to.wave outcome;
  report : StopsInText to.report (text.report outcome play.frames) count;
}
WritesPlay play listed to (Err (fault.Write output count)) = record {
  listing : TakesText to.listing listed;
  film : BreaksPlay play to.frames to.wave output count;
  report : IsUnwritten to.report;
}
WritesPlay play listed to (Err other) = ⊥

-- ---- a whole run

-- what is left of a course, as the contents of four texts
abbrev pub course_contents : RunInputs → Option Assembled → CourseValue → RunContents
course_contents inputs program course = record {
  outputs = (way_on course).outputs;
  frames = total_frames course.script;
  listing = listing_in (option_copied inputs.source) program;
  outcome = course_outcome course;
}

-- a run's four texts, whole, or up to a refused write
abbrev pub WritesRun : {F W L R : Type 0} → RunContents → Writings F W L R → Result Outcome RunFault → Type 0
WritesRun run to (Ok outcome) = IsRunWhole run to outcome
WritesRun run to (Err (fault.Write output count)) = IsCutAt run to output count
WritesRun run to (Err other) = ⊥

-- A run of a plan that may begin with a state file, and the board at its end, of which nothing is saved yet.
pub record IsRunTo {F W L R : Type 0} (plan : Plan) (dip : ℕ) (from : Option (List ℕ)) (to : Writings F W L R) (outcome : Outcome)
    (end board : BoardValue) : Type 0 where
  pub files : IsRunWhole (contents_from plan dip from board) to outcome
  pub set_is : end.set ≡ plan.set
  pub state_is : end.state ≡ end_state plan.set (total_frames plan.script) board (run_from plan dip from board)
  pub in_order : IsInOrder plan dip from board

abbrev pub RunsTo : {F W L R : Type 0} → RunInputs → (from : Option (List ℕ)) → Writings F W L R → Result RunEnd RunFault → Type 0
RunsTo inputs from to (Ok ran) =
    WithPlan inputs (λ plan. WithFirstBoard plan inputs.dip from (IsRunTo plan inputs.dip from to ran.outcome ran.board.value))
RunsTo inputs from to (Err (fault.Write output count)) =
    WithPlan inputs (λ plan. WithFirstBoard plan inputs.dip from (λ board. IsCutAt (contents_from plan inputs.dip from board) to output
    count))
RunsTo inputs from to (Err (fault.State refusal)) = IsStateRefused inputs from refusal × NothingWritten to
RunsTo inputs from to (Err fault.NoMemory) = NothingWritten to
RunsTo inputs from to (Err refusal) = (plan_of inputs ≡ Err refusal) × NothingWritten to

-- ---- one writer

-- a text, put into one writer
abbrev pub WritesWholeText : {W A : Type 0} → Writing W → List ℕ → Result A WriteFault → Type 0
WritesWholeText writer bytes (Ok done) = TakesText writer bytes
WritesWholeText writer bytes (Err fault) = StopsInText writer bytes fault.count
