-- Believed: what a run writes and answers.
use Rattle.std.specs.Prelude.{◌≡◌, ℕ, ◌-◌, ◌<◌, ◌≤◌, nat_le, if◌then◌else◌, List, [], ◌∷◌, length, Result, Ok, Err}
use Rattle.pac_media.specs.Counted.{file_count}
use Rattle.pac_media.specs.Writes.{StopsAfter}
use Rattle.pac_board_course.specs.Stretches.{total_frames}
use Rattle.pac_board_course.specs.Entry.{Entry}
use Rattle.pac_media.specs.Samples.{header_size}
use Rattle.pac_board_course.specs.BoardView.{power_on_board_view}
use Rattle.pac_board_course.specs.Output.{Output}
use Rattle.pac_board_course.specs.Shown.{blank_count}
use Rattle.pac_board_course.specs.Trace.{by_history, trace}
use Rattle.pac_board_course.specs.Walk.{Walk}
use Rattle.pac_debug.specs.Running.{play_of}
use Rattle.pac_run.specs.declared.fault.Output.{Output as Which}
use Rattle.pac_run.specs.declared.fault.Output.TheVariants.{Frames, Wave, Listing, Report}
use Rattle.pac_run.specs.declared.fault.RunFault.{RunFault}
use Rattle.pac_run.specs.declared.fault.RunFault.TheVariants as fault
use Rattle.pac_run.specs.declared.inputs.RunInputs.{RunInputs}
use Rattle.pac_run.specs.declared.writers.Writers.{Writers}
use Rattle.pac_board_course.specs.declared.outcome.Outcome.{Outcome}
use Rattle.pac_run.specs.Plan.{Plan, plan_of}
use Rattle.pac_run.specs.Texts as text

-- the trace of a plan: the source's items on the board, from power-on with a byte of the DIP switches
abbrev pub trace_of : Plan → ℕ → Walk (List Entry)
trace_of plan dip = trace (by_history plan.set plan.items (power_on_board_view dip)) (play_of plan.script) []

-- the frames, steps and time at the end of a trace, and its stop, if it met one
abbrev pub outcome_of : Walk (List Entry) → Outcome
outcome_of end = record { frames = blank_count end.now.board; steps = end.now.steps; ticks = end.now.time; stop = end.stop }

-- What the four texts of a run are made from: what it gives out, in order, of a script of so many frames; the listing; and what it
-- came to.
pub record RunContents : Type 0 where
  pub outputs : List Output
  pub frames : ℕ
  pub listing : List ℕ
  pub outcome : Outcome

abbrev pub frames_text : RunContents → List ℕ
frames_text run = text.images_text run.outputs

abbrev pub wave_text : RunContents → List ℕ
wave_text run = text.wave_file_text run.frames run.outputs

abbrev pub report_text : RunContents → List ℕ
report_text run = text.report run.outcome run.frames

-- the contents of a plan's run from power-on
abbrev pub contents_of : Plan → ℕ → RunContents
contents_of plan dip = record {
  outputs = (trace_of plan dip).outputs;
  frames = total_frames plan.script;
  listing = plan.listing;
  outcome = outcome_of (trace_of plan dip);
}

-- ---- the writers

-- a writer's two relations, and its value before and after the run
pub record Writing (W : Type 0) : Type 1 where
  pub took : W → List ℕ → W → Type 0
  pub refused : W → W → Type 0
  pub old : W
  pub new : W

abbrev pub writing : {W : Type 0} → (took : W → List ℕ → W → Type 0) → (refused : W → W → Type 0) → (old new : W) → Writing W
writing took refused old new = record { took = took; refused = refused; old = old; new = new }

-- the writer took this text and nothing else; it took so many bytes of it and then refused; nothing was written to it
abbrev pub TakesText : {W : Type 0} → Writing W → List ℕ → Type 0
TakesText writer text = writer.took writer.old text writer.new

-- the count is what a file tells: exact below 2^64
pub record StopsInText {W : Type 0} (writer : Writing W) (text : List ℕ) (count : ℕ) : Type 0 where
  pub taken : ℕ
  pub stopped : StopsAfter writer.took writer.refused writer.old text taken writer.new
  pub count_is : count ≡ file_count taken

abbrev pub IsUnwritten : {W : Type 0} → Writing W → Type 0
IsUnwritten writer = writer.new ≡ writer.old

-- the four writers of a run, each with its relations, before and after
pub record Writings (F W L R : Type 0) : Type 1 where
  pub frames : Writing F
  pub wave : Writing W
  pub listing : Writing L
  pub report : Writing R

abbrev pub writings : {F W L R : Type 0} → (F → List ℕ → F → Type 0) → (F → F → Type 0) → (W → List ℕ → W → Type 0) → (W → W → Type 0)
    → (L → List ℕ → L → Type 0) → (L → L → Type 0) → (R → List ℕ → R → Type 0) → (R → R → Type 0) → (old new : Writers F W L R)
    → Writings F W L R
writings took_f refused_f took_w refused_w took_l refused_l took_r refused_r old new = record {
  frames = writing took_f refused_f old.frames new.frames;
  wave = writing took_w refused_w old.wave new.wave;
  listing = writing took_l refused_l old.listing new.listing;
  report = writing took_r refused_r old.report new.report;
}

-- ---- frames and wave, which are written side by side as the run gives pictures and samples

-- Of some outputs those that come before the one with the byte of this number; all of them, if they have no such byte.
abbrev pub outputs_before : (bytes : Output → List ℕ) → (number : ℕ) → List Output → List Output
outputs_before bytes number [] = []
outputs_before bytes number (output ∷ more) =
    if nat_le (length (bytes output)) number
    then output ∷ outputs_before bytes (number - length (bytes output)) more
    else []

-- What was given before the image of which a byte was refused, and before the sample: after so many bytes of all images, and of the wave
-- file, which begins with its header.
abbrev pub shown_before : (taken : ℕ) → List Output → List Output
shown_before taken outputs = outputs_before text.image_bytes taken outputs

abbrev pub heard_before : (taken : ℕ) → List Output → List Output
heard_before taken outputs = outputs_before text.sample_bytes (taken - header_size) outputs

-- The frames' writer refused after so many bytes of all images. The wave's has exactly the sound that came before that image.
pub record FramesStop {F W : Type 0} (frames : Writing F) (wave : Writing W) (most : ℕ) (outputs : List Output) (count : ℕ) : Type
    0 where
  pub images : StopsInText frames (text.images_text outputs) count
  pub sound : TakesText wave (text.wave_so_far most (shown_before images.taken outputs))

-- The wave's writer refused after so many bytes of the whole wave file. Its header is written before the first image: where that is
-- refused nothing is written to the frames. Past it these have exactly the images that came before the sample of which a byte was
-- refused, or all of them where that was a zero after the samples.
pub record WaveStops {F W : Type 0} (frames : Writing F) (wave : Writing W) (most : ℕ) (outputs : List Output) (count : ℕ) : Type
    0 where
  pub sound : StopsInText wave (text.wave_file_text most outputs) count
  pub header_first : sound.taken < header_size → IsUnwritten frames
  pub images : header_size ≤ sound.taken → TakesText frames (text.images_text (heard_before sound.taken outputs))

-- ---- the run, by its answer

-- nothing was written at all
pub record NothingWritten {F W L R : Type 0} (to : Writings F W L R) : Type 0 where
  pub frames : IsUnwritten to.frames
  pub wave : IsUnwritten to.wave
  pub listing : IsUnwritten to.listing
  pub report : IsUnwritten to.report

-- done: each output has exactly its text
pub record IsRunWhole {F W L R : Type 0} (run : RunContents) (to : Writings F W L R) (outcome : Outcome) : Type 0 where
  pub outcome_is : outcome ≡ run.outcome
  pub frames : TakesText to.frames (frames_text run)
  pub wave : TakesText to.wave (wave_text run)
  pub listing : TakesText to.listing run.listing
  pub report : TakesText to.report (report_text run)

-- a refused write, by its output: that one took so many bytes of its text; those before it are whole, those after it untouched,
-- and of frames and wave, which are written side by side, the other one has what was given till then
abbrev pub IsCutAt : {F W L R : Type 0} → RunContents → Writings F W L R → Which → ℕ → Type 0
IsCutAt run to Listing count = record {
  listing : StopsInText to.listing run.listing count;
  frames : IsUnwritten to.frames;
  wave : IsUnwritten to.wave;
  report : IsUnwritten to.report;
}
IsCutAt run to Frames count = record {
  listing : TakesText to.listing run.listing;
  film : FramesStop to.frames to.wave run.frames run.outputs count;
  report : IsUnwritten to.report;
}
IsCutAt run to Wave count = record {
  listing : TakesText to.listing run.listing;
  film : WaveStops to.frames to.wave run.frames run.outputs count;
  report : IsUnwritten to.report;
}
IsCutAt run to Report count = record {
  listing : TakesText to.listing run.listing;
  frames : TakesText to.frames (frames_text run);
  wave : TakesText to.wave (wave_text run);
  report : StopsInText to.report (report_text run) count;
}
IsCutAt run to other count = ⊥

-- the plan of the inputs, and a fact of it
pub record WithPlan (inputs : RunInputs) (fact : Plan → Type 0) : Type 0 where
  pub plan : Plan
  pub plan_is : plan_of inputs ≡ Ok plan
  pub holds : fact plan

abbrev pub Runs : {F W L R : Type 0} → RunInputs → Writings F W L R → Result Outcome RunFault → Type 0
Runs inputs to (Ok outcome) = WithPlan inputs (λ plan. IsRunWhole (contents_of plan inputs.dip) to outcome)
Runs inputs to (Err (fault.Write output count)) = WithPlan inputs (λ plan. IsCutAt (contents_of plan inputs.dip) to output count)
Runs inputs to (Err fault.NoMemory) = NothingWritten to
Runs inputs to (Err refusal) = (plan_of inputs ≡ Err refusal) × NothingWritten to
