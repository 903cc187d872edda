-- Law: memory alone decides what a board does. Its voices and its picture are made from what happens, and act on nothing.
use Rattle.std.specs.Prelude.{◌≡◌, ℕ, ℤ, List}
use Rattle.pac_cpu.specs.Instructions.{decoded_instruction}
use Rattle.pac_cpu.specs.PlacedItems.{Item}
use Rattle.pac_cpu.specs.Reads.{four_from}
use Rattle.pac_map.specs.Contents.{read_of}
use Rattle.pac_map.specs.Entry.{Entry, view_after}
use Rattle.pac_map.specs.Latched.{interrupt_request, is_watchdog_due}
use Rattle.pac_map.specs.RomParts.{Parts}
use Rattle.pac_map.specs.View.{View}
use Rattle.pac_board_model.specs.BoardView.{BoardView}
use Rattle.pac_board_model.specs.Carried.{moment_view}
use Rattle.pac_board_model.specs.Output.{Image}
use Rattle.pac_board_model.specs.Step.{Questions, Moment, step}
use Rattle.pac_board_model.specs.Trace.{by_history, by_view}
use Rattle.pac_board_model.specs.Walk.{Walk, walk}

-- a board of memory alone, without voices and without a picture; what it gives out is anything
abbrev pub by_memory : Parts → (View → ℤ) → (View → Image) → Questions View
by_memory set sample image = record {
  put = view_after;
  read = read_of set.program;
  instruction = λ view at. decoded_instruction (four_from (λ byte. read_of set.program view byte) at);
  request = λ view. interrupt_request view.latched;
  sample = sample;
  image = image;
  is_due = λ view. is_watchdog_due view.latched;
}

-- the same registers, memory, time, steps and stop, where a board is seen through a view
pub record GoesAlike {From To : Type 0} (view : From → To) (walked : Walk From) (other : Walk To) : Type 0 where
  pub now : moment_view view walked.now ≡ other.now
  pub stop : walked.stop ≡ other.stop

-- Wherever a board walks, one of memory alone walks, too: from any moment, to any limit, over any number of blanks.
abbrev pub MemoryWalksAlone : Type 0
MemoryWalksAlone =
    (set : Parts) (sample : View → ℤ) (image : View → Image) (limit tries : ℕ) (from : Moment BoardView)
    → GoesAlike (λ board. board.memory) (walk (step (by_view set)) limit from tries)
    (walk (step (by_memory set sample image)) limit (moment_view (λ board. board.memory) from) tries)

-- Boards whose memories begin alike have one history, to the entry, whatever their voices and pictures were. What they sound and show
-- is what `outputs_are_of_the_history` says of it, so it may be made later.
abbrev pub HistoryIsOfMemory : Type 0
HistoryIsOfMemory =
    (set : Parts) (items : List Item) (start other : BoardView) (limit tries : ℕ) (from : Moment (List Entry))
    → start.memory ≡ other.memory
    → GoesAlike (λ entries. entries) (walk (step (by_history set items start)) limit from tries)
    (walk (step (by_history set items other)) limit from tries)

pub record MemoryDecides : Type 0 where
  pub walks : MemoryWalksAlone
  pub history : HistoryIsOfMemory
