-- Believed: what a host's calls do. A host keeps its board's state as a block, hands it in with each call, and hands in its
-- ROMs and its buffers where a call needs them; nothing else is kept.
use Rattle.std.specs.Prelude.{◌≡◌, ◌≢◌, ◌<◌, ◌≤◌, ℕ, ℤ, ◌+◌, ◌-◌, ◌*◌, ◌/◌, ◌^◌, min, nat_lt, if◌then◌else◌, ◌⊎◌}
use Rattle.std.specs.Prelude.{List, [], ◌∷◌, ◌++◌, length, drop, slice_index_or, Option, None, Some, Result, Ok, Err}
use Rattle.std.specs.List.{flat_map}
use Rattle.pac_board.specs.Instructions.{most_ticks}
use Rattle.pac_board.specs.MemoryContents.{read_of}
use Rattle.pac_board.specs.MemoryView.{held_with, held_without}
use Rattle.pac_board.specs.Output.{Output, Sound, Show, sound_count, picture_count}
use Rattle.pac_board.specs.PictureState.{palette_of}
use Rattle.pac_board.specs.RomParts.{Parts, program_size, tiles_size, sprites_size}
use Rattle.pac_board.specs.RomParts.{colour_prom_size, lookup_prom_size, wave_prom_size}
use Rattle.pac_board.specs.Step.{sample_ticks}
use Rattle.pac_board.specs.Tiles.{width, height}
use Rattle.pac_board.specs.Calls.{course, outputs_given, board_after_run}
use Rattle.pac_board.specs.Calls.{run_ticks}
use Rattle.pac_board.specs.State.{BoardState, BoardValue, most_asked, time_of, power_on_board, board_with_inputs}
use Rattle.pac_board.specs.Stop.{Stop}
use Rattle.pac_num.specs.Numbers.{wrapped_address}
use Rattle.pac_num.specs.Tabulate.{tabulate}
use Rattle.pac_state.specs.declared.fault.LoadFault.TheVariants.{NoMemory}
use Rattle.pac_state.specs.Block.{IsBlock, block_text}
use Rattle.pac_state.specs.Files.{IsFile, board_of_file}
use Rattle.pac_state.specs.Reading.{bytes_at_place, state_in}
use Rattle.pac_state.specs.Saved.{RefusesFile, file_size}
use Rattle.pac_state.specs.Text.{save_text, written_version}
use Rattle.pac_block.specs.declared.codes.HostFault.{HostFault}
use Rattle.pac_block.specs.declared.codes.HostFault.TheVariants.{WrongLength, NoBoard, TooLong, NoRoom, NoFile}
use Rattle.pac_block.specs.declared.ran.PacRan.{PacRan}
use Rattle.pac_block.specs.Codes.{ran_of, ran_bytes}

-- ---- what a host hands in

-- its ROMs, one after another: program, tiles, sprites, colour PROM, lookup PROM and wave PROM
abbrev pub roms_size : ℕ
roms_size = 25120

unfoldable pub set_of_roms : List ℕ → Parts
set_of_roms roms = record {
  program = bytes_at_place 0 program_size roms;
  tiles = bytes_at_place 16384 tiles_size roms;
  sprites = bytes_at_place 20480 sprites_size roms;
  colours = bytes_at_place 24576 colour_prom_size roms;
  lookup = bytes_at_place 24608 lookup_prom_size roms;
  wave = bytes_at_place 24864 wave_prom_size roms;
}

-- the board that these ROMs and a block make
abbrev pub board_in : (roms block : List ℕ) → BoardValue
board_in roms block = record { set = set_of_roms roms; state = state_in block; made = 0 }

-- the microseconds that were asked of a block's board so far
abbrev pub asked_in : List ℕ → ℕ
asked_in block = (state_in block).asked

-- The block of this state: it is taken as one by the next call, which finds this state in it.
pub record IsBlockOf (state : BoardState) (block : List ℕ) : Type 0 where
  pub text : block ≡ block_text state
  pub state_is : state_in block ≡ state
  pub block_is : IsBlock block

-- what is wrong where ROMs and a block are needed: the first of both
abbrev pub MissesBoard : (roms block : List ℕ) → HostFault → Type 0
MissesBoard roms block WrongLength = length roms ≢ roms_size
MissesBoard roms block NoBoard = (length roms ≡ roms_size) × (IsBlock block → ⊥)
MissesBoard roms block fault = ⊥

-- and where a buffer of this size is needed beside them
abbrev pub MissesBuffer : (roms block buffer : List ℕ) → (size : ℕ) → HostFault → Type 0
MissesBuffer roms block buffer size WrongLength = (length roms ≢ roms_size) ⊎ (length buffer ≢ size)
MissesBuffer roms block buffer size NoBoard = (length roms ≡ roms_size) × (length buffer ≡ size) × (IsBlock block → ⊥)
MissesBuffer roms block buffer size fault = ⊥

-- ---- power-on

-- the board with these ROMs at power-on, with a byte of the DIP switches; whatever the block was before
pub record HasInit (roms : List ℕ) (switches : ℕ) (new : List ℕ) : Type 0 where
  pub roms_are : length roms ≡ roms_size
  pub board : IsBlockOf (power_on_board (set_of_roms roms) switches).state new

abbrev pub InitFails : List ℕ → HostFault → Type 0
InitFails roms WrongLength = length roms ≢ roms_size
InitFails roms fault = ⊥

abbrev pub Inits : (roms : List ℕ) (switches : ℕ) (old : List ℕ) → Result (Unit {0}) HostFault → (new : List ℕ) → Type 0
Inits roms switches old (Ok done) new = HasInit roms switches new
Inits roms switches old (Err fault) new = InitFails roms fault × (new ≡ old)

-- ---- a reset, and the inputs: the ROMs make no difference

abbrev pub IsNoBlock : List ℕ → HostFault → Type 0
IsNoBlock block NoBoard = IsBlock block → ⊥
IsNoBlock block fault = ⊥

-- a block's board becomes another one, whatever its ROMs are
pub record HasBecome (becomes : BoardValue → BoardValue) (old new : List ℕ) : Type 0 where
  pub block : IsBlock old
  pub board : (roms : List ℕ) → IsBlockOf (becomes (board_in roms old)).state new

abbrev pub Becomes : (BoardValue → BoardValue) → (old : List ℕ) → Result (Unit {0}) HostFault → (new : List ℕ) → Type 0
Becomes becomes old (Ok done) new = HasBecome becomes old new
Becomes becomes old (Err fault) new = IsNoBlock old fault × (new ≡ old)

-- the board that lets some inputs go, and holds others then
abbrev pub board_holding : (set clear : ℕ) → BoardValue → BoardValue
board_holding set clear board =
    board_with_inputs board (held_with (held_without board.state.now.board.memory.held clear) set)

-- ---- time

-- the samples among outputs
abbrev pub samples_given : List Output → List ℤ
samples_given [] = []
samples_given (Sound sample ∷ more) = sample ∷ samples_given more
samples_given (Show image ∷ more) = samples_given more

abbrev pub samples_due : Option ℤ → ℕ
samples_due None = 0
samples_due (Some sample) = 1

-- The most samples that so many microseconds can give: the one that is due, and where steps are done the moments of samples from now on
-- up to the latest end of the last step, which begins before the time is over.
abbrev pub most_samples : BoardState → ℕ → ℕ
most_samples state microseconds =
    let time = state.now.time in
    let limit = time_of (state.asked + microseconds) in
    samples_due state.due.sample
    + (if nat_lt time limit then (limit - 1 + most_ticks) / sample_ticks - time / sample_ticks else 0)

-- the room of a buffer, in samples; more than its count can tell is none
abbrev pub room_of : List ℤ → ℕ
room_of samples = min (length samples) (2 ^ 32 - 1)

-- the least microseconds that, asked in all, leave time for a step: the time at which they are over is past this one
abbrev pub least_asked : ℕ → ℕ
least_asked time = (125 * (time + 1) + 383) / 384

-- What was asked in all of a board, once a call for some time is done. Where it stopped, that is the least which meets the stop again: so
-- what was missed isn't made up for once the stop is gone, after a reset or with other ROMs.
abbrev pub asked_left : Option Stop → (asked time : ℕ) → ℕ
asked_left None asked time = asked
asked_left (Some stop) asked time = least_asked time

abbrev pub state_left : Option Stop → BoardState → BoardState
state_left stop state = record { now = state.now; asked = asked_left stop state.asked state.now.time; due = state.due }

-- the board that a call for so many microseconds leaves
abbrev pub board_after_exec : BoardValue → ℕ → BoardValue
board_after_exec board microseconds =
    let after = board_after_run board microseconds in
    record { set = after.set; state = state_left (course board microseconds).stop after.state; made = after.made }

-- what a call for so many microseconds leaves: the board's state, the samples at the head of the buffer, and what is told of them
pub record HasExecuted (roms block : List ℕ) (microseconds : ℕ) (samples : List ℤ) (new : List ℕ) (samples_after : List ℤ) (ran : PacRan)
    : Type 0 where
  pub roms_are : length roms ≡ roms_size
  pub block_is : IsBlock block
  pub within : asked_in block + microseconds ≤ most_asked
  pub room : most_samples (state_in block) microseconds ≤ room_of samples
  pub board : IsBlockOf (board_after_exec (board_in roms block) microseconds).state new
  pub samples_are :
      samples_after
      ≡ samples_given (outputs_given (board_in roms block) microseconds)
      ++ drop (sound_count (outputs_given (board_in roms block) microseconds)) samples
  pub ran_is :
      ran
      ≡ ran_of (run_ticks (board_in roms block) microseconds) (sound_count (outputs_given (board_in roms block) microseconds))
      (picture_count (outputs_given (board_in roms block) microseconds)) (course (board_in roms block) microseconds).stop

-- why such a call isn't done: the first of these
abbrev pub ExecFails : (roms block : List ℕ) (microseconds : ℕ) (samples : List ℤ) → HostFault → Type 0
ExecFails roms block microseconds samples TooLong =
    (length roms ≡ roms_size) × IsBlock block × (most_asked < asked_in block + microseconds)
ExecFails roms block microseconds samples NoRoom =
    (length roms ≡ roms_size) × IsBlock block × (asked_in block + microseconds ≤ most_asked)
    × (room_of samples < most_samples (state_in block) microseconds)
ExecFails roms block microseconds samples fault = MissesBoard roms block fault

-- it is told in 32 bytes
pub record TellsRun (roms block : List ℕ) (microseconds : ℕ) (samples : List ℤ) (new : List ℕ) (samples_after : List ℤ) (told : List ℕ)
    : Type 0 where
  pub ran : PacRan
  pub executed : HasExecuted roms block microseconds samples new samples_after ran
  pub told_is : told ≡ ran_bytes ran

abbrev pub Execs : (roms old : List ℕ) (microseconds : ℕ) (samples : List ℤ) (told : List ℕ) → Result (Unit {0}) HostFault
    → (new : List ℕ) (samples_after : List ℤ) (told_after : List ℕ) → Type 0
Execs roms old microseconds samples told (Ok done) new samples_after told_after =
    TellsRun roms old microseconds samples new samples_after told_after
Execs roms old microseconds samples told (Err fault) new samples_after told_after =
    ExecFails roms old microseconds samples fault × (new ≡ old) × (samples_after ≡ samples) × (told_after ≡ told)

-- ---- the picture

-- red, green and blue of a colour number, and full opacity
abbrev pub opaque_pixel : List (List ℕ) → ℕ → List ℕ
opaque_pixel palette number = slice_index_or palette number [] ++ 255 ∷ []

-- four bytes for each pixel, from the left of the top line on
unfoldable pub rgba_of : (palette lines : List (List ℕ)) → List ℕ
rgba_of palette lines = flat_map (flat_map (opaque_pixel palette)) lines

abbrev pub rgba_size : ℕ
rgba_size = 4 * (width * height)

-- the picture of a block's board as it stands, in the colours of its ROMs
pub record HasDrawn (roms block rgba new : List ℕ) : Type 0 where
  pub roms_are : length roms ≡ roms_size
  pub size : length rgba ≡ rgba_size
  pub block_is : IsBlock block
  pub drawn : new ≡ rgba_of (palette_of (set_of_roms roms).colours) (state_in block).now.board.lines

abbrev pub Draws : (roms block old : List ℕ) → Result (Unit {0}) HostFault → (new : List ℕ) → Type 0
Draws roms block old (Ok done) new = HasDrawn roms block old new
Draws roms block old (Err fault) new = MissesBuffer roms block old rgba_size fault × (new ≡ old)

-- ---- state files

-- the state file of a block's board, of the version that is written
pub record HasSaved (roms block text new : List ℕ) : Type 0 where
  pub roms_are : length roms ≡ roms_size
  pub size : length text ≡ file_size
  pub block_is : IsBlock block
  pub saved : new ≡ save_text written_version (set_of_roms roms) (state_in block)

abbrev pub WritesFile : (roms block old : List ℕ) → Result (Unit {0}) HostFault → (new : List ℕ) → Type 0
WritesFile roms block old (Ok done) new = HasSaved roms block old new
WritesFile roms block old (Err fault) new = MissesBuffer roms block old file_size fault × (new ≡ old)

-- the board of a state file of the ROMs; whatever the block was before
pub record HasLoaded (roms text new : List ℕ) : Type 0 where
  pub roms_are : length roms ≡ roms_size
  pub file : IsFile (set_of_roms roms) text
  pub board : (file : IsFile (set_of_roms roms) text) → IsBlockOf (board_of_file (set_of_roms roms) file).state new

-- why there is none: the first thing that is wrong with the file, which then isn't one of these ROMs
abbrev pub LoadFails : (roms text : List ℕ) → HostFault → Type 0
LoadFails roms text WrongLength = length roms ≢ roms_size
LoadFails roms text (NoFile fault) =
    (length roms ≡ roms_size) × RefusesFile (set_of_roms roms) text fault × (fault ≢ NoMemory) × (IsFile (set_of_roms roms) text → ⊥)
LoadFails roms text fault = ⊥

abbrev pub TakesFile : (roms text old : List ℕ) → Result (Unit {0}) HostFault → (new : List ℕ) → Type 0
TakesFile roms text old (Ok done) new = HasLoaded roms text new
TakesFile roms text old (Err fault) new = LoadFails roms text fault × (new ≡ old)

-- ---- memory

-- what the processor would read of a block's board at so many addresses, from one on; they wrap at 65,536
unfoldable pub bytes_read : (roms block : List ℕ) (at count : ℕ) → List ℕ
bytes_read roms block at count =
    tabulate count (λ place. read_of (set_of_roms roms).program (state_in block).now.board.memory (wrapped_address (at + place)))

pub record HasPeeked (roms block : List ℕ) (at : ℕ) (bytes new : List ℕ) : Type 0 where
  pub roms_are : length roms ≡ roms_size
  pub block_is : IsBlock block
  pub read : new ≡ bytes_read roms block at (length bytes)

abbrev pub Peeks : (roms block : List ℕ) (at : ℕ) (old : List ℕ) → Result (Unit {0}) HostFault → (new : List ℕ) → Type 0
Peeks roms block at old (Ok done) new = HasPeeked roms block at old new
Peeks roms block at old (Err fault) new = MissesBoard roms block fault × (new ≡ old)
