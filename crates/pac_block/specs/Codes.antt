-- Believed: the numbers that a host's calls answer, and how a run is told (this profile).
use Rattle.std.specs.Prelude.{◌≡◌, ℕ, List, [], ◌∷◌, ◌++◌, Option, None, Some, Result, Ok, Err}
use Rattle.std.specs.Int.{w16, w32, w64, to_le_bytes}
use Rattle.pac_board.specs.Cause.{Cause}
use Rattle.pac_board.specs.CauseVariants.{Opcode, Vector}
use Rattle.pac_board.specs.Stop.{Stop}
use Rattle.pac_state.specs.declared.fault.LoadFault.{LoadFault}
use Rattle.pac_state.specs.declared.fault.LoadFault.TheVariants.{NoState, OtherVersion, Size, OutOfRange, Damaged, OtherSet, NoMemory}
use Rattle.pac_block.specs.declared.codes.HostFault.{HostFault}
use Rattle.pac_block.specs.declared.codes.HostFault.TheVariants.{WrongLength, NoBoard, TooLong, NoRoom, NoFile, Closed}
use Rattle.pac_block.specs.declared.ran.PacRan.{PacRan}

-- ---- what a call answers

-- V1 to V6 of a state file
abbrev pub file_code : LoadFault → ℕ
file_code NoState = 11
file_code OtherVersion = 12
file_code Size = 13
file_code OutOfRange = 14
file_code Damaged = 15
file_code OtherSet = 16
-- (no call of a host takes memory)
file_code NoMemory = 17

-- 0 where the call was done, or why it wasn't
abbrev pub code_of : Result (Unit {0}) HostFault → ℕ
code_of (Ok done) = 0
code_of (Err WrongLength) = 1
code_of (Err NoBoard) = 2
code_of (Err TooLong) = 3
code_of (Err NoRoom) = 4
code_of (Err Closed) = 5
code_of (Err (NoFile fault)) = file_code fault

-- A call answers the number of what it came to.
pub record Answers (comes_to : Result (Unit {0}) HostFault → Type 0) (code : ℕ) : Type 0 where
  pub answer : Result (Unit {0}) HostFault
  pub code_is : code ≡ code_of answer
  pub done : comes_to answer

-- ---- how a run is told

-- 1 is S1, 2 is S2
abbrev pub cause_number : Cause → ℕ
cause_number Opcode = 1
cause_number (Vector byte) = 2

-- the byte of the interrupt vector, where it is what is amiss
abbrev pub vector_told : Cause → ℕ
vector_told Opcode = 0
vector_told (Vector byte) = byte

-- the T-states that went by, how many samples and pictures were given, and the stop, if one was met; what isn't to be told is 0
abbrev pub ran_of : (ticks samples pictures : ℕ) → Option Stop → PacRan
ran_of ticks samples pictures None = record {
  ticks = ticks;
  samples = samples;
  pictures = pictures;
  stop = 0;
  pc = 0;
  bytes = 0 ∷ 0 ∷ 0 ∷ 0 ∷ [];
  vector = 0;
  zero = 0;
}
ran_of ticks samples pictures (Some stop) = record {
  ticks = ticks;
  samples = samples;
  pictures = pictures;
  stop = cause_number stop.cause;
  pc = stop.pc;
  bytes = stop.bytes;
  vector = vector_told stop.cause;
  zero = 0;
}

-- The 32 bytes in which it is told, as C lays out a `pac_ran`: each field at its place, numbers with the low byte first, and 0 where no
-- field is. T-states are at 0; samples, pictures and the stop at 8, 12 and 16; the stop's PC at 20, the bytes from there on at 22, and the
-- vector at 26.
unfoldable pub ran_bytes : PacRan → List ℕ
ran_bytes ran =
    to_le_bytes w64 ran.ticks
    ++ to_le_bytes w32 ran.samples ++ to_le_bytes w32 ran.pictures ++ to_le_bytes w32 ran.stop
    ++ to_le_bytes w16 ran.pc ++ ran.bytes ++ ran.vector ∷ ran.zero ∷ 0 ∷ 0 ∷ 0 ∷ 0 ∷ []
