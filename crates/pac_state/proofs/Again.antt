-- A state that is read back out of its text.
use Rattle.pac_state.proofs.Common.{AreWords, BoardState, Bool, Due, FitsSample, InterruptMode, IsState, List, Parts, Regs, arith}
use Rattle.pac_state.proofs.Common.{binary_digit, bits_of-byte_of, bytes_at_place, control_bytes, controls_in, digest_of, due_bytes, due_of}
use Rattle.pac_state.proofs.Common.{from_le_bytes-to_le_bytes_2, from_le_bytes-to_le_bytes_4, from_le_bytes-to_le_bytes_8, joined_pieces}
use Rattle.pac_state.proofs.Common.{memory_of, mode_of, number_of_mode, processor_bytes, regs_of, rules, save_text, state_in, ℕ, ◌<◌, ◌==◌}
use Rattle.pac_state.proofs.Common.{◌^◌, ◌≡◌}
use Rattle.pac_state.specs.Text as text
use Rattle.pac_state.proofs.Written.{HasPieces, has-pieces, has-picture, lines-again, length-sha1}

-- ---- the processor

mode-again : (mode : InterruptMode) → mode_of (number_of_mode mode) ≡ mode
mode-again mode = search rules

regs-again : (regs : Regs) → AreWords regs → regs_of (processor_bytes regs) ≡ regs
unfolding processor_bytes
regs-again regs words = grind (arith, bits_of-byte_of, from_le_bytes-to_le_bytes_2, mode-again)

-- ---- the memory

digit-again : (bit : Bool) → (binary_digit bit == 1) ≡ bit
digit-again bit = search rules

memory-again : (version : ℕ) (digest bytes : List ℕ) (state : BoardState) → HasPieces version digest state bytes
    → state.now.board.memory.held < 2 ^ 16 → memory_of (controls_in bytes) bytes ≡ state.now.board.memory
unfolding control_bytes
memory-again version digest bytes state pieces held =
    let memory = state.now.board.memory in
    rw (
      pieces 15,
      from_le_bytes-to_le_bytes_2 memory.held held,
      pieces 7,
      pieces 8,
      pieces 9,
      pieces 10,
      pieces 11,
      bits_of-byte_of memory.latched.bits,
      digit-again memory.latched.request,
    )

-- ---- what is due

due-again : (due : Due) → FitsSample due.sample → due_of (text.due_bytes due) ≡ due
unfolding text.due_bytes
due-again due fits = search rules

-- ---- the whole

pub same-again : (version : ℕ) (of_set bytes : List ℕ) (state : BoardState) → IsState state → HasPieces version of_set state bytes
    → bytes_at_place 3224 64512 bytes ≡ joined_pieces state.now.board.lines → state_in bytes ≡ state
same-again version of_set bytes state is pieces picture =
    let board = state.now.board in
    rw (
      pieces 3,
      regs-again state.now.regs is.words,
      memory-again version of_set bytes state pieces is.held,
      pieces 12,
      from_le_bytes-to_le_bytes_4 board.accumulators.first (omega arith),
      pieces 13,
      from_le_bytes-to_le_bytes_4 board.accumulators.second (omega arith),
      pieces 14,
      from_le_bytes-to_le_bytes_4 board.accumulators.third (omega arith),
      picture,
      lines-again board.lines is.range.picture,
      pieces 4,
      from_le_bytes-to_le_bytes_8 state.now.time (omega arith),
      pieces 5,
      from_le_bytes-to_le_bytes_8 state.now.steps (omega arith),
      pieces 6,
      from_le_bytes-to_le_bytes_8 state.asked (omega arith),
      pieces 16,
      due-again state.due is.sample,
    )

pub state-again : (version : ℕ) (set : Parts) (state : BoardState) → IsState state → state_in (save_text version set state) ≡ state
state-again version set state is =
    same-again version (digest_of set) _ state is (has-pieces version (digest_of set) state (length-sha1 _) is.memory)
    (has-picture version (digest_of set) state (length-sha1 _) is.memory is.range.picture)
