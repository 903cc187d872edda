-- Law: laws of the board's definitions, each proved on a public function of the crate.
use Rattle.std.specs.Prelude.{◌≡◌, ◌≢◌, ◌<◌, ◌≤◌, ℕ, zero, suc, ◌+◌, ◌-◌, ◌*◌, ◌/◌, Option, None, Some, true, min}
use Rattle.std.specs.Prelude.{List, [], ◌++◌, ◌∷◌, slice_index, slice_index_or, unwrap_or}
use mathlib.Core.List.{IsPrefix}
use Rattle.pac_cpu.specs.PlacedItems.{Item, AllLie}
use Rattle.pac_cpu.specs.declared.once.Stop.{Stop}
use Rattle.pac_cpu.specs.Regs.{Regs}
use Rattle.pac_cpu.specs.Instructions.{least_ticks, most_ticks}
use Rattle.pac_map.specs.RomParts.{Parts, IsWhole}
use Rattle.pac_map.specs.Latched.{is_latch_bit_set, interrupt_request, watchdog_limit}
use Rattle.pac_map.specs.Latched as latch
use Rattle.pac_picture.specs.Tiles.{height}
use Rattle.pac_cpu.specs.Tabulate.{tabulate}
use Rattle.pac_wave.specs.declared.Voice.{Voice}
use Rattle.pac_wave.specs.Wave.{accumulator}
use Rattle.pac_map.specs.Contents.{read_of}
use Rattle.pac_map.specs.Entry.{Entry, Sample, Line, Blank, Hold}
use Rattle.pac_map.specs.Place.{ram_size, coordinates_size}
use Rattle.pac_map.specs.View.{attributes_size}
use Rattle.pac_map.specs.View as view
use Rattle.pac_picture.specs.Picture.{picture_line}
use Rattle.pac_board_model.specs.BoardView.{BoardView, IsBoard, power_on_board_view, video_roms}
use Rattle.pac_board_model.specs.History.{read, board_after_entries, tile_at, colour_at, work_at, coordinate_at}
use Rattle.pac_board_model.specs.History.{history_registers, last_held}
use Rattle.pac_board_model.specs.Queries.{bit_at, last_vector, history_request, blanks_since, is_reset_due}
use Rattle.pac_board_model.specs.Output.{sound_count, picture_count}
use Rattle.pac_board_model.specs.Shown.{accumulator_at, memory_at, line_at, blank_count}
use Rattle.pac_board_model.specs.ShownLaws.{history_outputs, sample_count}
use Rattle.pac_board_model.specs.Step.{Questions, Moment, Next, Goes, Ends, StepProgress, note, line_event, step, line_ticks, frame_ticks}
use Rattle.pac_board_model.specs.Step.{sample_ticks}
use Rattle.pac_board_model.specs.Walk.{Walk, walk, walk_to, walk_at_start}
use Rattle.pac_board_model.specs.WalkLaws.{has_ended}
use Rattle.pac_board_model.specs.Carried.{moment_view, next_view, walk_view}
use Rattle.pac_board_model.specs.Host.{Host, Act, account_by_history, account_by_view, host_at, after_acts, host_view}
use Rattle.pac_board_model.specs.Trace.{Play, by_history, by_view, run_at, trace, power_on_moment, moment_with_inputs, play_step}
use Rattle.pac_board_model.specs.Step.{frame_samples}

-- ---- history and view

-- The view that a history leaves answers each read as the history does.
abbrev pub ViewAnswers : Type 0
ViewAnswers =
    (set : Parts) (start : BoardView) (entries : List Entry) (address : ℕ) → IsBoard start
    → read set.program start.memory entries address
    ≡ read_of set.program (board_after_entries set start entries).memory address

-- The view tells all that a step, a sample or a picture asks as the history does.
pub record TellsHistory (set : Parts) (start : BoardView) (entries : List Entry) : Type 0 where
  pub tile : (cell : ℕ) → cell < ram_size
      → slice_index (board_after_entries set start entries).memory.tile cell ≡ tile_at start.memory entries cell
  pub colour : (cell : ℕ) → cell < ram_size
      → slice_index (board_after_entries set start entries).memory.colour cell ≡ colour_at start.memory entries cell
  pub work : (cell : ℕ) → cell < ram_size
      → slice_index (board_after_entries set start entries).memory.work cell ≡ work_at start.memory entries cell
  pub attributes : view.sprite_attributes (board_after_entries set start entries).memory
      ≡ tabulate attributes_size (λ place. work_at start.memory entries (ram_size - attributes_size + place))
  pub coordinates : (board_after_entries set start entries).memory.coordinates
      ≡ tabulate coordinates_size (coordinate_at start.memory entries)
  pub registers : (board_after_entries set start entries).memory.registers ≡ history_registers start.memory entries
  pub held : (board_after_entries set start entries).memory.held ≡ unwrap_or (last_held entries) start.memory.held
  pub bits : (place : ℕ) → is_latch_bit_set (board_after_entries set start entries).memory.latched place
      ≡ bit_at start.memory entries place
  pub vector : (board_after_entries set start entries).memory.latched.vector
      ≡ unwrap_or (last_vector entries) start.memory.latched.vector
  pub request : interrupt_request (board_after_entries set start entries).memory.latched
      ≡ history_request start.memory entries
  pub count :
      (board_after_entries set start entries).memory.latched.count
      ≡ min watchdog_limit (blanks_since start.memory.latched.count entries)
  pub due : latch.is_watchdog_due (board_after_entries set start entries).memory.latched
      ≡ is_reset_due start.memory entries
  pub accumulators : (voice : Voice)
      → accumulator (board_after_entries set start entries).accumulators voice ≡ accumulator_at start entries voice
  pub lines : (board_after_entries set start entries).lines ≡ tabulate height (line_at set start entries)

abbrev pub ViewTells : Type 0
ViewTells = (set : Parts) (start : BoardView) (entries : List Entry) → IsBoard start →
    TellsHistory set start entries

-- A step told by the source's items and the history, seen as the board keeps it, is the step told by the bytes and the view: the
-- same instruction, time and outputs. So is a step of a run with a script.
pub record StepAgrees (set : Parts) (items : List Item) (start : BoardView) (now : Moment (List Entry)) : Type 0 where
  pub alone :
      next_view (board_after_entries set start) (step (by_history set items start) now)
      ≡ step (by_view set) (moment_view (board_after_entries set start) now)
  pub with_script : (inputs : ℕ → ℕ)
      → next_view (board_after_entries set start) (play_step (by_history set items start) inputs now)
      ≡ play_step (by_view set) inputs (moment_view (board_after_entries set start) now)

abbrev pub StepsAgree : Type 0
StepsAgree =
    (set : Parts) (items : List Item) (start : BoardView) (now : Moment (List Entry)) → IsWhole set → AllLie set.program items
    → IsBoard start → StepAgrees set items start now

-- A run told by the source's items and the history is the run told by the bytes and the view, at each index.
abbrev pub RunsAgree : Type 0
RunsAgree =
    (set : Parts) (items : List Item) (switches index : ℕ) (play : Play) → IsWhole set → AllLie set.program items
    → walk_view (board_after_entries set (power_on_board_view switches))
    (run_at (by_history set items (power_on_board_view switches)) play [] index)
    ≡ run_at (by_view set) play (power_on_board_view switches) index

-- Whatever a host does, in whichever order, from any view of a board on and after any entries: what its acts make of the history, seen
-- as the board keeps it, is what they make of the view.
abbrev pub HostsAgree : Type 0
HostsAgree =
    (set : Parts) (items : List Item) (start : BoardView) (host : Host (List Entry)) (acts : List Act) → IsWhole set
    → AllLie set.program items → IsBoard start
    → host_view (board_after_entries set start) (after_acts (account_by_history set items start) host acts)
    ≡ after_acts (account_by_view set) (host_view (board_after_entries set start) host) acts

-- ---- what a run gives out

-- A run's outputs are those of its history: each sample and each picture of the entries before it.
abbrev pub OutputsAreOfTheHistory : Type 0
OutputsAreOfTheHistory =
    (set : Parts) (items : List Item) (start : BoardView) (index : ℕ) (play : Play)
    → let run = run_at (by_history set items start) play [] index in
    run.outputs ≡ history_outputs set start run.now.board

-- A run has a sample for each 32 T-states, 1,584 a frame, and a picture for each frame.
pub record AreTimed (set : Parts) (items : List Item) (switches index : ℕ) (play : Play) : Type 0 where
  pub samples :
      sample_count (run_at (by_history set items (power_on_board_view switches)) play [] index).now.board
      ≡ (run_at (by_history set items (power_on_board_view switches)) play [] index).now.time / sample_ticks
  pub blanks :
      blank_count (run_at (by_history set items (power_on_board_view switches)) play [] index).now.board
      ≡ (run_at (by_history set items (power_on_board_view switches)) play [] index).now.time / frame_ticks

abbrev pub OutputsAreTimed : Type 0
OutputsAreTimed =
    (set : Parts) (items : List Item) (switches index : ℕ) (play : Play) → AreTimed set items switches index play

-- When a frame's blank comes, each frame so far has had its samples: 1,584 of them.
abbrev pub FramesHaveTheirSamples : Type 0
FramesHaveTheirSamples =
    (set : Parts) (items : List Item) (switches index frame : ℕ) (play : Play) (later older : List Entry)
    → (run_at (by_history set items (power_on_board_view switches)) play [] index).now.board ≡ later ++ Blank frame ∷ older
    → sample_count older ≡ frame_samples * frame

-- Line y of frame f is composed at 50688 (f - 1) + 192 (41 + y).
abbrev pub LinesHaveTheirMoments : Type 0 → Type 0
LinesHaveTheirMoments Board =
    (ask : Questions Board) (earlier y : ℕ) (met : StepProgress Board) → y < height
    → line_event ask (frame_ticks * earlier + line_ticks * (41 + y)) met ≡ note ask (Line (earlier + 1) y) met

-- the moment of line y of a frame, the first of which is 1
abbrev pub line_moment : (frame y : ℕ) → ℕ
line_moment frame y = frame_ticks * (frame - 1) + line_ticks * (41 + y)

-- No line is composed at a moment other than that of a line of a frame.
abbrev pub LinesHaveNoOtherMoments : Type 0 → Type 0
LinesHaveNoOtherMoments Board =
    (ask : Questions Board) (moment : ℕ) (met : StepProgress Board) → 1 ≤ moment
    → ((frame y : ℕ) → 1 ≤ frame → y < height → moment ≢ line_moment frame y) → line_event ask moment met ≡ met

-- the entries among which a line of a frame was composed, and that the picture has this line
pub record IsComposed (set : Parts) (start : BoardView) (frame y : ℕ) (entries : List Entry) : Type 0 where
  pub after : List Entry
  pub before : List Entry
  pub among : entries ≡ after ++ Line frame y ∷ before
  pub line : slice_index_or (tabulate height (line_at set start entries)) y []
      ≡ picture_line (video_roms set) (memory_at start.memory before) y

-- Each frame's picture is, line by line, that of the entries before the line's own.
abbrev pub PicturesAreLineExact : Type 0
PicturesAreLineExact =
    (set : Parts) (items : List Item) (switches index frame : ℕ) (play : Play) (later older : List Entry)
    → (run_at (by_history set items (power_on_board_view switches)) play [] index).now.board ≡ later ++ Blank frame ∷ older
    → (y : ℕ) → y < height → IsComposed set (power_on_board_view switches) frame y older

-- Line y of a frame was composed among these older entries: at its own moment, after one time and not after another, right after that
-- moment's sound sample.
pub record IsLineInTime (from to frame y : ℕ) (older : List Entry) : Type 0 where
  pub frame_is : 1 ≤ frame
  pub line_is : y < height
  pub after : from < line_moment frame y
  pub not_after : line_moment frame y ≤ to
  pub before : List Entry
  pub sample : older ≡ Sample (line_moment frame y / sample_ticks) ∷ before

-- In a board's history lines were composed at their own moments from a time on, and its pictures show them so.
pub record HasLinesInTime (set : Parts) (start : BoardView) (from : ℕ) (now : Moment (List Entry)) : Type 0 where
  -- lines were composed at their own moments and at no others
  pub in_time : (frame y : ℕ) (later older : List Entry) → now.board ≡ later ++ Line frame y ∷ older →
      IsLineInTime from now.time frame y older
  -- the picture that a frame's blank shows has each line of this frame whose moment came after that time
  pub shown : (frame y : ℕ) (later older : List Entry) → now.board ≡ later ++ Blank frame ∷ older → y < height
      → from < line_moment frame y → IsComposed set start frame y older
  -- the picture as it stands has each line of the last frame in which the line's moment has come
  pub standing : (frame y : ℕ) → 1 ≤ frame → y < height → from < line_moment frame y → line_moment frame y ≤ now.time
      → now.time < line_moment (frame + 1) y → IsComposed set start frame y now.board

-- Whatever a host does from any moment on, the history has its lines in time from then on.
abbrev pub HostsAreLineExact : Type 0
HostsAreLineExact =
    (set : Parts) (items : List Item) (start : BoardView) (regs : Regs) (time steps : ℕ) (acts : List Act)
    → HasLinesInTime set start time
    (after_acts (account_by_history set items start)
    (host_at (record { regs = regs; board = []; time = time; steps = steps })) acts).now

-- ---- steps and walks

-- A step that goes on takes 4 to 23 T-states, and is one step more.
abbrev pub IsTimely : {Board : Type 0} → Moment Board → Next Board → Type 0
IsTimely now (Goes after outputs kind) =
    (now.time + least_ticks ≤ after.time) × (after.time ≤ now.time + most_ticks) × (after.steps ≡ now.steps + 1)
IsTimely now (Ends stop) = Unit {0}

abbrev pub StepsAreTimely : Type 0 → Type 0
StepsAreTimely Board =
    (ask : Questions Board) (inputs : ℕ → ℕ) (now : Moment Board)
    → IsTimely now (step ask now) × IsTimely now (play_step ask inputs now)

-- A run of as many steps as its frames can have has ended, and indices at which it has ended have one state.
abbrev pub RunsEnd : Type 0 → Type 0
RunsEnd Board =
    (ask : Questions Board) (play : Play) (board : Board) (index : ℕ)
    → (has_ended (frame_ticks * play.frames) (trace ask play board) ≡ true)
    × (has_ended (frame_ticks * play.frames) (run_at ask play board index) ≡ true → run_at ask play board index ≡ trace ask play board)

-- The outputs up to an index are a prefix of those of each later one.
abbrev pub RunsAreJoined : Type 0 → Type 0
RunsAreJoined Board =
    (ask : Questions Board) (play : Play) (board : Board) (index more : ℕ)
    → IsPrefix (run_at ask play board index).outputs (run_at ask play board (index + more)).outputs

-- A walk to a limit has ended there, and is any walk that has ended there.
abbrev pub WalksEnd : Type 0 → Type 0
WalksEnd Board =
    (ask : Questions Board) (limit tries : ℕ) (from : Moment Board)
    → (has_ended limit (walk_to (step ask) limit from) ≡ true)
    × (has_ended limit (walk (step ask) limit from tries) ≡ true → walk (step ask) limit from tries ≡ walk_to (step ask) limit from)

-- Walks join: to a limit and then on to a later one is to the later one at once. A stop is met again.
pub record Joins {Board : Type 0} (ask : Questions Board) (first second : ℕ) (from : Moment Board) : Type 0 where
  pub now : (walk_to (step ask) second (walk_to (step ask) first from).now).now ≡ (walk_to (step ask) second from).now
  pub stop : (walk_to (step ask) second (walk_to (step ask) first from).now).stop ≡ (walk_to (step ask) second from).stop
  pub outputs :
      (walk_to (step ask) first from).outputs ++ (walk_to (step ask) second (walk_to (step ask) first from).now).outputs
      ≡ (walk_to (step ask) second from).outputs

abbrev pub WalksJoin : Type 0 → Type 0
WalksJoin Board =
    (ask : Questions Board) (first second : ℕ) (from : Moment Board) → first ≤ second → Joins ask first second from

-- A walk goes on from its middle: what was walked, and what is left to the limit, are the whole walk.
pub record GoesOn {Board : Type 0} (ask : Questions Board) (limit tries : ℕ) (from : Moment Board) : Type 0 where
  pub now : (walk_to (step ask) limit (walk (step ask) limit from tries).now).now ≡ (walk_to (step ask) limit from).now
  pub stop : (walk_to (step ask) limit (walk (step ask) limit from tries).now).stop ≡ (walk_to (step ask) limit from).stop
  pub outputs :
      (walk (step ask) limit from tries).outputs ++ (walk_to (step ask) limit (walk (step ask) limit from tries).now).outputs
      ≡ (walk_to (step ask) limit from).outputs

abbrev pub WalksGoOn : Type 0 → Type 0
WalksGoOn Board = (ask : Questions Board) (limit tries : ℕ) (from : Moment Board) → GoesOn ask limit tries from

-- A walk gives a sample at each multiple of 32 T-states that it goes through, and a picture at each of 50,688. From its limit on it does
-- no step; before it, its last step begins before it.
pub record IsWalkTimed {Board : Type 0} (ask : Questions Board) (limit tries : ℕ) (from : Moment Board) : Type 0 where
  pub samples : sound_count (walk (step ask) limit from tries).outputs + from.time / sample_ticks
      ≡ (walk (step ask) limit from tries).now.time / sample_ticks
  pub pictures : picture_count (walk (step ask) limit from tries).outputs + from.time / frame_ticks
      ≡ (walk (step ask) limit from tries).now.time / frame_ticks
  pub over : limit ≤ from.time → (walk (step ask) limit from tries).now ≡ from
  pub last : from.time < limit → (walk (step ask) limit from tries).now.time < limit + most_ticks

abbrev pub WalksAreTimed : Type 0 → Type 0
WalksAreTimed Board = (ask : Questions Board) (limit tries : ℕ) (from : Moment Board) → IsWalkTimed ask limit tries from

-- ---- a run frame by frame

-- A frame that is played after others: a walk to its end, after which the next one's inputs are held. A stop ends it, and the
-- run stays there.
abbrev pub with_frame : {Board : Type 0} → Questions Board → (ℕ → ℕ) → Walk Board → Walk Board → Option Stop → Walk Board
with_frame ask inputs before frame None =
    record { now = moment_with_inputs ask inputs frame.now; outputs = before.outputs ++ frame.outputs; stop = None }
with_frame ask inputs before frame (Some stop) =
    record { now = frame.now; outputs = before.outputs ++ frame.outputs; stop = Some stop }

abbrev pub next_frame : {Board : Type 0} → Questions Board → (ℕ → ℕ) → ℕ → Walk Board → Option Stop → Walk Board
next_frame ask inputs frame before None =
    let walked = walk_to (step ask) (frame_ticks * frame) before.now in with_frame ask inputs before walked walked.stop
next_frame ask inputs frame before (Some stop) = before

abbrev pub by_frames : {Board : Type 0} → Questions Board → (ℕ → ℕ) → Board → (frames : ℕ) → Walk Board
by_frames ask inputs board zero = walk_at_start (power_on_moment (ask.put board (Hold (inputs 1))))
by_frames ask inputs board (suc frames) =
    let before = by_frames ask inputs board frames in next_frame ask inputs (suc frames) before before.stop

-- A run is its frames, one played after another.
abbrev pub RunsGoByFrames : Type 0 → Type 0
RunsGoByFrames Board =
    (ask : Questions Board) (inputs : ℕ → ℕ) (board : Board) (frames : ℕ)
    → by_frames ask inputs board frames ≡ trace ask (record { frames = frames; held = inputs }) board
