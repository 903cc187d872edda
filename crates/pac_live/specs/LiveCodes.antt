-- Believed: how a run on a live board that something may end is told (this profile).
use Rattle.std.specs.Prelude.{ℕ, Option, None, Some}
use Rattle.pac_board.specs.Access.{Access}
use Rattle.pac_board.specs.AccessVariants.{Read, Write}
use Rattle.pac_board.specs.MemoryContents.{read_of}
use Rattle.pac_board.specs.State.{BoardValue}
use Rattle.pac_live.specs.declared.live_until.Ended.{Ended}
use Rattle.pac_live.specs.declared.live_until.Ended.TheVariants.{TimeOver, AtPlace, AtStop, BufferFull, AtAccess}
use Rattle.pac_live.specs.declared.live_until.PacUntil.{PacUntil}
use Rattle.pac_block.specs.declared.ran.PacRan.{PacRan}

abbrev pub ended_number : Ended → ℕ
ended_number TimeOver = 1
ended_number AtPlace = 2
ended_number AtStop = 3
ended_number BufferFull = 4
ended_number AtAccess = 5

-- of an access: 1 for a write, 2 for a read, and its address
abbrev pub access_number : Option Access → ℕ
access_number None = 0
access_number (Some (Write address before written)) = 1
access_number (Some (Read address)) = 2

abbrev pub access_address : Option Access → ℕ
access_address None = 0
access_address (Some (Write address before written)) = address
access_address (Some (Read address)) = address

-- The byte there before and after: of a write what a read there gave, and what was written; of a read both are what a read there gives now.
abbrev pub byte_before : (now : ℕ → ℕ) → Option Access → ℕ
byte_before now None = 0
byte_before now (Some (Write address before written)) = before
byte_before now (Some (Read address)) = now address

abbrev pub byte_after : (now : ℕ → ℕ) → Option Access → ℕ
byte_after now None = 0
byte_after now (Some (Write address before written)) = written
byte_after now (Some (Read address)) = now address

-- what the processor would read at an address
abbrev pub reads_now : BoardValue → ℕ → ℕ
reads_now board address = read_of board.set.program board.state.now.board.memory address

-- what is told of a run, why it ended, the access that its last step made, and the board as it is then
abbrev pub until_of : PacRan → Ended → Option Access → BoardValue → PacUntil
until_of ran ended met board = record {
  ticks = ran.ticks;
  samples = ran.samples;
  pictures = ran.pictures;
  why = ended_number ended;
  stop = ran.stop;
  pc = board.state.now.regs.pc;
  address = access_address met;
  bytes = ran.bytes;
  vector = ran.vector;
  access = access_number met;
  before = byte_before (reads_now board) met;
  after = byte_after (reads_now board) met;
  zero = 0;
}
