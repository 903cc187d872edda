-- The text of a state is taken, and what is taken is the text of a state.
use Rattle.pac_state.proofs.Taken.{tested, below, size-of}
use Rattle.pac_state.proofs.Common.{AcceptsFile, AreWritten, BoardState, BoardValue, Bool, Damaged, Err, FitsSample, IsFile, IsState}
use Rattle.pac_state.proofs.Common.{IsStateInRange, IsText, IsWellFormed, List, LoadFault, Misses, NoMemory, NoState, None, Ok, OtherSet}
use Rattle.pac_state.proofs.Common.{OtherVersion, OutOfRange, Parts, ReadsFile, Result, Size, Some, ap, arith, begins_with_magic}
use Rattle.pac_state.proofs.Common.{board_of_file, body, bytes_at_place, bytes_eq-Decides, digest_of, drop, drop-append_seam, due_sample}
use Rattle.pac_state.proofs.Common.{false, file_size, from_le_bytes-to_le_bytes_2, get_or, if◌then◌else◌, is_known, is_of_another_version}
use Rattle.pac_state.proofs.Common.{is_of_set, is_sealed, length, length-append, load_fault, magic, refl, rules, save_text, saved_word_at}
use Rattle.pac_state.proofs.Common.{sha1, state_in, sym, take, take-append_seam, true, upgraded_board, version_in, ℕ, ⊎_elim, ◌++◌, ◌<◌}
use Rattle.pac_state.proofs.Common.{◌^◌, ◌∙◌, ◌≡◌, ◌≢◌}
use Rattle.pac_state.proofs.Whole.{AreBytes, length-part, part-bytes, text-of}
use Rattle.pac_state.proofs.Written.{has-pieces, length-body, length-sha1}
use Rattle.pac_state.proofs.Again.{state-again}

-- ---- the text of a state has no fault

known-word : (version : ℕ) → is_known version ≡ true → version < 2 ^ 16
known-word version known = grind (arith, known)

none-found : (digest bytes : List ℕ) → begins_with_magic bytes ≡ true → is_of_another_version bytes ≡ false → length bytes ≡ file_size
    → is_sealed bytes ≡ true → is_of_set digest bytes ≡ true → load_fault digest bytes ≡ None
unfolding load_fault
none-found digest bytes first second third fourth fifth = rw (first, second, third, fourth, fifth) refl

pub text-size : (version : ℕ) (set : Parts) (state : BoardState) → IsState state → length (save_text version set state) ≡ file_size
text-size version set state is = grind (arith, length-append, length-body, length-sha1)

text-version : (version : ℕ) (set : Parts) (state : BoardState) → is_known version ≡ true → IsState state
    → version_in (save_text version set state) ≡ version
text-version version set state known is =
    let pieces = has-pieces version (digest_of set) state (length-sha1 _) is.memory in
    rw (pieces 1) (from_le_bytes-to_le_bytes_2 version (known-word version known))

text-begins : (version : ℕ) (set : Parts) (state : BoardState) → IsState state → begins_with_magic (save_text version set state) ≡ true
text-begins version set state is =
    rw (text-size version set state is)
    ((bytes_eq-Decides (take 8 (save_text version set state)) magic).1
    (has-pieces version (digest_of set) state (length-sha1 _) is.memory 0))

text-no-other : (version : ℕ) (set : Parts) (state : BoardState) → is_known version ≡ true → IsState state
    → is_of_another_version (save_text version set state) ≡ false
text-no-other version set state known is = grind (arith, text-size, text-version)

text-sealed : (version : ℕ) (set : Parts) (state : BoardState) → IsState state → is_sealed (save_text version set state) ≡ true
text-sealed version set state is =
    let message = body version (digest_of set) state in
    let long : length message ≡ 67736 = length-body version (digest_of set) state (length-sha1 _) is.memory is.range.picture in
    (bytes_eq-Decides (sha1 (take 67736 (message ++ sha1 message))) (drop 67736 (message ++ sha1 message))).1
    (rw (← long, take-append_seam message (sha1 message), drop-append_seam message (sha1 message)))

text-of-set : (version : ℕ) (set : Parts) (state : BoardState) → IsState state →
    is_of_set (digest_of set) (save_text version set state) ≡ true
text-of-set version set state is =
    let pieces = has-pieces version (digest_of set) state (length-sha1 _) is.memory in
    (bytes_eq-Decides (digest_of set) (bytes_at_place 10 20 (save_text version set state))).1 (sym (pieces 2))

text-sound : (version : ℕ) (set : Parts) (state : BoardState) → is_known version ≡ true → IsState state
    → load_fault (digest_of set) (save_text version set state) ≡ None
text-sound version set state known is = grind (arith, none-found, text-begins, text-no-other, text-of-set, text-sealed, text-size)

text-written : (version : ℕ) (set : Parts) (state : BoardState) → IsState state → AreWritten state (save_text version set state)
text-written version set state is =
    let pieces = has-pieces version (digest_of set) state (length-sha1 _) is.memory in
    record { processor = sym (pieces 3); controls = sym (pieces 15); due = sym (pieces 16) }

text-is-text : (version : ℕ) (set : Parts) (state : BoardState) → IsState state → IsText (save_text version set state)
text-is-text version set state is =
    let same = state-again version set state is in
    record { in_range = rw same is.range; written = rw same (text-written version set state is) }

-- ---- what is taken is the text of a state

word-below : (at : ℕ) (bytes : List ℕ) → AreBytes bytes → saved_word_at at bytes < 2 ^ 16
unfolding AreBytes
word-below at bytes fits = let parts = part-bytes at 2 bytes fits in omega arith

fits-sample : (is_due : Bool) (word : ℕ) → word < 2 ^ 16 → FitsSample (due_sample is_due word)
fits-sample is_due word within = search rules

pub sizes : (bytes : List ℕ) → length bytes ≡ file_size → IsStateInRange (state_in bytes) → IsWellFormed (state_in bytes).now.board.memory
sizes bytes size range = record {
  tile = length-part 82 1024 bytes (omega (arith, size));
  colour = length-part 1106 1024 bytes (omega (arith, size));
  work = length-part 2130 1024 bytes (omega (arith, size));
  coordinates = length-part 3154 16 bytes (omega (arith, size));
  registers = length-part 3170 32 bytes (omega (arith, size));
  nibbles = range.registers;
  count = let within = range.count in omega (arith, within);
}

is-state : (bytes : List ℕ) → AreBytes bytes → length bytes ≡ file_size → IsStateInRange (state_in bytes) → IsState (state_in bytes)
is-state bytes fits size range =
    let small = λ (place at size : ℕ). word-below at (bytes_at_place place size bytes) (part-bytes place size bytes fits) in
    record {
      words = record { ix = small 30 16 28; iy = small 30 18 28; sp = small 30 20 28; pc = small 30 22 28 };
      memory = sizes bytes size range;
      held = small 3214 4 7;
      sample = fits-sample _ _ (small 3221 1 3);
      range = range;
    }

known-of : (digest bytes : List ℕ) → load_fault digest bytes ≡ None → is_known (version_in bytes) ≡ true
unfolding load_fault
known-of digest bytes none =
    let size = size-of digest bytes none in grind (arith, below, tested, size)

-- ---- the answer

pub text-board : (set : Parts) (bytes : List ℕ) (file : IsFile set bytes)
    → upgraded_board (version_in bytes) (record { set = set; state = state_in bytes; made = 0 }) ≡ board_of_file set file
text-board set bytes file =
    let version : version_in bytes ≡ file.version =
    ap version_in file.text ∙ text-version file.version set file.state file.known file.is_state in
    let state : state_in bytes ≡ file.state = ap state_in file.text ∙ state-again file.version set file.state file.is_state in search rules

no-memory : (set : Parts) (bytes : List ℕ) (fault : LoadFault) → IsText bytes → Misses bytes fault → fault ≡ NoMemory
no-memory set bytes OutOfRange text misses = absurd (misses text)
no-memory set bytes fault text misses = search rules

never-memory : (marked version size seal set : Bool) → (if marked then Some NoState else if version then Some OtherVersion
    else if size then Some Size else if seal then Some Damaged else if set then Some OtherSet else None) ≢ Some NoMemory
never-memory marked version size seal set = search rules

-- what is wrong with a file is no want of memory
pub fault-of-file : (digest bytes : List ℕ) (fault : LoadFault) → load_fault digest bytes ≡ Some fault → fault ≢ NoMemory
unfolding load_fault
fault-of-file digest bytes fault told = grind (arith, never-memory)

pub accepts : (set : Parts) (bytes : List ℕ) → ((i : ℕ) → get_or bytes i 0 < 256) → (result : Result BoardValue LoadFault)
    → ReadsFile set bytes result → AcceptsFile set bytes result
unfolding AreBytes
accepts set bytes fits (Ok board) answers = record {
  file = record {
    version = version_in bytes;
    known = known-of (digest_of set) bytes answers.sound;
    state = state_in bytes;
    is_state = is-state bytes fits (size-of (digest_of set) bytes answers.sound) answers.text.in_range;
    text = sym (text-of set bytes fits answers.sound answers.text.written);
  };
  board = λ file. answers.board ∙ text-board set bytes file;
}
accepts set bytes fits (Err fault) answers = λ (file : IsFile set bytes).
    let sound : load_fault (digest_of set) bytes ≡ None = rw file.text (text-sound file.version set file.state file.known file.is_state) in
    let text : IsText bytes = rw file.text (text-is-text file.version set file.state file.is_state) in
    answers.of_file (⊎_elim (λ told. absurd (cc (told, sound))) (λ (rest : _ × _). no-memory set bytes fault text rest.1) answers.refuses)

-- and a file's board is what is read
pub reads : (set : Parts) (bytes : List ℕ) (board : BoardValue) → AcceptsFile set bytes (Ok board) → ReadsFile set bytes (Ok board)
reads set bytes board accepted =
    let file = accepted.file in
    record {
      sound = rw file.text (text-sound file.version set file.state file.known file.is_state);
      text = rw file.text (text-is-text file.version set file.state file.is_state);
      board = accepted.board file ∙ sym (text-board set bytes file);
    }
