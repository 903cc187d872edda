-- Believed: which files are taken, for which board, and what is wrong with the others.
use Rattle.std.specs.Prelude.{◌≡◌, ℕ, ◌==◌, min, nat_le, Bool, not, ◌&&◌, ◌||◌, if◌then◌else◌, ⊤, ◌⊎◌}
use Rattle.std.specs.Prelude.{List, length, take, drop, bytes_eq, Option, Some, None}
use Rattle.sha1.specs.Sha1.{sha1}
use Rattle.pac_board.specs.RomParts.{Parts}
use Rattle.pac_roms_manifest.specs.Sets.{digest_of}
use Rattle.pac_board.specs.State.{BoardState, BoardValue, IsStateInRange, passed_lines, recomposed_view, with_view}
use Rattle.pac_state.specs.declared.fault.LoadFault.{LoadFault}
use Rattle.pac_state.specs.declared.fault.LoadFault.TheVariants.{NoState, OtherVersion, Size, OutOfRange, Damaged, OtherSet, NoMemory}
use Rattle.pac_state.specs.Text.{magic, processor_bytes, control_bytes, due_bytes}
use Rattle.pac_state.specs.Reading.{bytes_at_place, saved_word_at, processor_in, controls_in, due_in, state_in}

-- the bytes of a file, those that its digest is of, and those up to the end of the version
abbrev pub file_size : ℕ
file_size = 67756

abbrev pub body_size : ℕ
body_size = 67736

abbrev pub version_end : ℕ
version_end = 10

-- ---- what is wrong before any field of the state is looked at

-- what is there of the first 8 bytes is what each file begins with
abbrev pub begins_with_magic : List ℕ → Bool
begins_with_magic bytes = bytes_eq (take (min 8 (length bytes)) bytes) (take (min 8 (length bytes)) magic)

abbrev pub version_in : List ℕ → ℕ
version_in = saved_word_at 8

abbrev pub is_known : ℕ → Bool
is_known version = version == 1 || version == 2

-- the whole version is there, and is another one
abbrev pub is_of_another_version : List ℕ → Bool
is_of_another_version bytes = nat_le version_end (length bytes) && not (is_known (version_in bytes))

-- the digest at the end is that of all before
abbrev pub is_sealed : List ℕ → Bool
is_sealed bytes = bytes_eq (sha1 (take body_size bytes)) (drop body_size bytes)

-- the ROM set that the file is of has this digest
abbrev pub is_of_set : List ℕ → List ℕ → Bool
is_of_set digest bytes = bytes_eq digest (bytes_at_place 10 20 bytes)

-- V1, V2, V3, V5, V6: the first of them that holds of a file, for a set of this digest
unfoldable pub load_fault : List ℕ → List ℕ → Option LoadFault
load_fault digest bytes =
    if not (begins_with_magic bytes) then Some NoState
    else if is_of_another_version bytes then Some OtherVersion
    else if not (length bytes == file_size) then Some Size
    else if not (is_sealed bytes) then Some Damaged
    else if not (is_of_set digest bytes) then Some OtherSet
    else None

-- ---- the state

-- Of the pieces of a file these three could be written in more than one way for one state, by bits and numbers that have no
-- meaning. They stand as they are written for this state.
pub record AreWritten (state : BoardState) (bytes : List ℕ) : Type 0 where
  pub processor : processor_bytes state.now.regs ≡ processor_in bytes
  pub controls : control_bytes state.now.board.memory ≡ controls_in bytes
  pub due : due_bytes state.due ≡ due_in bytes

-- The fields that stand in a file are a state's, and stand there as they are written.
pub record IsText (bytes : List ℕ) : Type 0 where
  pub in_range : IsStateInRange (state_in bytes)
  pub written : AreWritten (state_in bytes) bytes

-- ---- the board

-- version 1 has the picture of the last blank: the lines passed since then are composed from what the memory keeps
abbrev pub upgraded_board : ℕ → BoardValue → BoardValue
upgraded_board version board =
    if version == 1
    then with_view board (recomposed_view board.set board.state.now.board (passed_lines board.state.now.time))
    else board

-- ---- the answer

-- what is told of a file in which nothing was found wrong before its fields: V4, or want of memory
abbrev pub Misses : List ℕ → LoadFault → Type 0
Misses bytes OutOfRange = IsText bytes → ⊥
Misses bytes NoMemory = ⊤
Misses bytes fault = ⊥

-- why a file is refused
abbrev pub RefusesFile : Parts → List ℕ → LoadFault → Type 0
RefusesFile set bytes fault =
    (load_fault (digest_of set) bytes ≡ Some fault) ⊎ ((load_fault (digest_of set) bytes ≡ None) × Misses bytes fault)
