-- Believed: the text of a board's state, as a state file has it (this profile): 67,756 bytes, numbers with their low byte
-- first.
use Rattle.std.specs.Prelude.{ℕ, pos, List, [], ◌∷◌, ◌++◌, is_some, unwrap_or, codes}
use Rattle.std.specs.Int.{w16, w32, w64, to_le_bytes, cast_unsigned}
use Rattle.sha1.specs.Sha1.{sha1}
use Rattle.pac_out.specs.Pieces.{joined_pieces}
use Rattle.pac_board.specs.Latched.{binary_digit, binary_number, byte_of_latch}
use Rattle.pac_board.specs.InterruptMode.{InterruptMode}
use Rattle.pac_board.specs.InterruptModeVariants.{Zero, One, Two}
use Rattle.pac_board.specs.Regs.{Regs}
use Rattle.pac_board.specs.MemoryView.{View}
use Rattle.pac_board.specs.RomParts.{Parts}
use Rattle.pac_roms_manifest.specs.Sets.{digest_of}
use Rattle.pac_board.specs.Due.{Due}
use Rattle.pac_board.specs.State.{BoardState}

-- numbers of 2, 4 and 8 bytes
abbrev pub saved_word : ℕ → List ℕ
saved_word n = to_le_bytes w16 n

abbrev pub saved_double_word : ℕ → List ℕ
saved_double_word n = to_le_bytes w32 n

abbrev pub saved_long_word : ℕ → List ℕ
saved_long_word n = to_le_bytes w64 n

-- what each file begins with
abbrev pub magic : List ℕ
magic = codes "PACSTATE"

-- bit 0 IFF1, 1 IFF2, 2 halted, 3 just after EI
abbrev pub processor_flags : Regs → ℕ
processor_flags regs = binary_number (regs.iff1 ∷ regs.iff2 ∷ regs.halted ∷ regs.after_ei ∷ [])

abbrev pub number_of_mode : InterruptMode → ℕ
number_of_mode Zero = 0
number_of_mode One = 1
number_of_mode Two = 2

-- the processor, 28 bytes: A F B C D E H L, the second set of them, IX IY SP PC, I R, flags and interrupt mode
unfoldable pub processor_bytes : Regs → List ℕ
processor_bytes regs =
    (regs.a ∷ regs.f ∷ regs.b ∷ regs.c ∷ regs.d ∷ regs.e ∷ regs.h ∷ regs.l ∷ [])
    ++ (regs.alternate.a ∷ regs.alternate.f ∷ regs.alternate.b ∷ regs.alternate.c ∷ regs.alternate.d ∷ regs.alternate.e
    ∷ regs.alternate.h ∷ regs.alternate.l ∷ [])
    ++ saved_word regs.ix ++ saved_word regs.iy ++ saved_word regs.sp ++ saved_word regs.pc
    ++ (regs.i ∷ regs.r ∷ processor_flags regs ∷ number_of_mode regs.mode ∷ [])

-- output latch, interrupt vector, request and the watchdog's count, then the mask of the inputs held and the byte of the DIP
-- switches: 7 bytes
unfoldable pub control_bytes : View → List ℕ
control_bytes memory =
    (byte_of_latch memory.latched.bits ∷ memory.latched.vector ∷ binary_digit memory.latched.request ∷ memory.latched.count ∷ [])
    ++ saved_word memory.held
    ++ (memory.switches ∷ [])

-- what is due, 3 bytes: bit 0 a sample, bit 1 the picture; then the sample, 0 where none is due
unfoldable pub due_bytes : Due → List ℕ
due_bytes waiting = binary_number (is_some waiting.sample ∷ waiting.picture ∷ []) ∷
    saved_word (cast_unsigned w16 (unwrap_or waiting.sample (pos 0)))

-- The pieces before the memory: the first bytes, the version, the digest of the ROM set, 20 bytes; the processor; the time in
-- T-states, the steps, and the microseconds that were asked for.
unfoldable pub head : ℕ → List ℕ → BoardState → List (List ℕ)
head version digest state =
    magic ∷ saved_word version ∷ digest
    ∷ processor_bytes state.now.regs ∷ saved_long_word state.now.time ∷ saved_long_word state.now.steps ∷ saved_long_word state.asked
    ∷ []

-- the three RAMs
unfoldable pub ram : BoardState → List (List ℕ)
ram state = state.now.board.memory.tile ∷ state.now.board.memory.colour ∷ state.now.board.memory.work ∷ []

-- the sprites' coordinates, the wave generator's registers and its accumulators, and the rest
unfoldable pub devices : BoardState → List (List ℕ)
devices state =
    state.now.board.memory.coordinates ∷ state.now.board.memory.registers
    ∷ saved_double_word state.now.board.accumulators.first
    ∷ saved_double_word state.now.board.accumulators.second
    ∷ saved_double_word state.now.board.accumulators.third
    ∷ control_bytes state.now.board.memory ∷ due_bytes state.due
    ∷ []

-- all that comes before the picture, with the picture's colour numbers, the rows from the top
abbrev pub file_front : ℕ → List ℕ → BoardState → List ℕ
file_front version digest state =
    joined_pieces (head version digest state) ++ joined_pieces (ram state) ++ joined_pieces (devices state)

abbrev pub body : ℕ → List ℕ → BoardState → List ℕ
body version digest state = file_front version digest state ++ joined_pieces state.now.board.lines

-- a text with its SHA-1 digest at the end
abbrev pub sealed_file : List ℕ → List ℕ
sealed_file text = text ++ sha1 text

abbrev pub save_text : ℕ → Parts → BoardState → List ℕ
save_text version set state = sealed_file (body version (digest_of set) state)

-- the version that is written
abbrev pub written_version : ℕ
written_version = 2
