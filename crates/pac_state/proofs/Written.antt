-- The text of a state: each piece of it stands at its place, and its digest after it.
use Rattle.pac_state.proofs.Common.{BoardState, IsPicture, IsWellFormed, List, [], ap, append_assoc, arith, body, bytes_at_place}
use Rattle.pac_state.proofs.Common.{common_steps, control_bytes, devices, digest_bytes, drop, drop-append_seam, due_bytes, file_front}
use Rattle.pac_state.proofs.Common.{flat_map-append, flat_map-one-more, flat_map-split, get_or, head, joined_pieces, length, length-append}
use Rattle.pac_state.proofs.Common.{lines_of, magic, processor_bytes, ram, refl, saved_double_word, saved_long_word, saved_word}
use Rattle.pac_state.proofs.Common.{sealed_file, sha1, subst, suc, sym, tabulate-is, take, take-append_seam, take_all, written_version}
use Rattle.pac_state.proofs.Common.{zero, ℕ, ◌*◌, ◌++◌, ◌+◌, ◌<◌, ◌∙◌, ◌∷◌, ◌≡◌, ◌≤◌}
use Rattle.pac_state.proofs.Whole.{cut, total}
use Rattle.std.specs.Prelude.{sum}
use Rattle.std.proofs.lemmas.List.Sums.{sum_by-cons}

-- ---- pieces of a text, cut out of it

part-here : (before piece after : List ℕ) → bytes_at_place (length before) (length piece) (before ++ (piece ++ after)) ≡ piece
part-here before piece after = rw (drop-append_seam, take-append_seam)

pub part-at : (at width : ℕ) (before piece after : List ℕ) → length before ≡ at → length piece ≡ width
    → bytes_at_place at width (before ++ (piece ++ after)) ≡ piece
part-at at width before piece after here wide = rw (← here, ← wide) (part-here before piece after)

abbrev widths : List (List ℕ) → List ℕ
widths [] = []
widths (piece ∷ more) = length piece ∷ widths more

cut-joined : (before : List ℕ) (parts : List (List ℕ)) (after : List ℕ)
    → cut (length before) (widths parts) (before ++ (joined_pieces parts ++ after)) ≡ parts
unfolding cut
cut-joined before [] after = refl
cut-joined before (piece ∷ more) after =
    rw (
      append_assoc piece (joined_pieces more) after,
      part-here,
      ← length-append before piece,
      ← append_assoc before piece,
      cut-joined (before ++ piece) more after,
    )

cut-at : (at : ℕ) (sizes bytes : List ℕ) (k : ℕ)
    → get_or (cut at sizes bytes) k [] ≡ bytes_at_place (at + sum (take k sizes)) (get_or sizes k 0) bytes
unfolding cut
cut-at at [] bytes k = refl
cut-at at (width ∷ more) bytes zero = let none : at + 0 ≡ at = omega arith in rw none refl
cut-at at (width ∷ more) bytes (suc k) =
    let place : at + width + sum (take k more) ≡ at + sum (width ∷ take k more) = omega (arith, sum_by-cons (λ n. n) width (take k more)) in
    cut-at (at + width) more bytes k ∙ ap (λ n. bytes_at_place n (get_or more k 0) bytes) place

length-joined : (parts : List (List ℕ)) → length (joined_pieces parts) ≡ total (widths parts)
unfolding total
length-joined [] = refl
length-joined (piece ∷ more) = rw (length-append, length-joined more)

-- ---- the pieces of a state

abbrev pieces : ℕ → List ℕ → BoardState → List (List ℕ)
pieces version digest state =
    let now = state.now in
    let memory = now.board.memory in
    let sound = now.board.accumulators in
    magic ∷ saved_word version ∷ digest ∷ processor_bytes now.regs ∷ saved_long_word now.time ∷ saved_long_word now.steps
    ∷ saved_long_word state.asked ∷ memory.tile ∷ memory.colour ∷ memory.work ∷ memory.coordinates ∷ memory.registers
    ∷ saved_double_word sound.first ∷ saved_double_word sound.second ∷ saved_double_word sound.third ∷ control_bytes memory
    ∷ due_bytes state.due ∷ []

abbrev places : List ℕ
places = 8 ∷ 2 ∷ 20 ∷ 28 ∷ 8 ∷ 8 ∷ 8 ∷ 1024 ∷ 1024 ∷ 1024 ∷ 16 ∷ 32 ∷ 4 ∷ 4 ∷ 4 ∷ 7 ∷ 3 ∷ []

listed : (version : ℕ) (digest : List ℕ) (state : BoardState)
    → pieces version digest state ≡ (head version digest state ++ ram state) ++ devices state
unfolding head ram devices
listed version digest state = refl

joined-pieces : (version : ℕ) (digest : List ℕ) (state : BoardState) →
    joined_pieces (pieces version digest state) ≡ file_front version digest state
joined-pieces version digest state =
    let parts : joined_pieces ((head version digest state ++ ram state) ++ devices state) ≡ file_front version digest state
    = grind (arith, flat_map-append) in ap joined_pieces (listed version digest state) ∙ parts

widths-are : (version : ℕ) (digest : List ℕ) (state : BoardState) → length digest ≡ 20 → IsWellFormed state.now.board.memory
    → widths (pieces version digest state) ≡ places
unfolding processor_bytes control_bytes due_bytes
widths-are version digest state long sizes = rw (long, sizes.tile, sizes.colour, sizes.work, sizes.coordinates, sizes.registers) refl

-- in the order of these places, each piece stands at its place
abbrev pub HasPieces : ℕ → List ℕ → BoardState → List ℕ → Type 0
HasPieces number of_set state bytes =
    (k : ℕ) → bytes_at_place (0 + sum (take k places)) (get_or places k 0) bytes ≡ get_or (pieces number of_set state) k []

pub front-pieces : (version : ℕ) (digest : List ℕ) (state : BoardState) (after : List ℕ) → length digest ≡ 20
    → IsWellFormed state.now.board.memory → HasPieces version digest state (file_front version digest state ++ after)
front-pieces version digest state after long sizes k =
    let all : cut 0 places (file_front version digest state ++ after) ≡ pieces version digest state =
    rw (← widths-are version digest state long sizes, ← joined-pieces version digest state)
    (cut-joined [] (pieces version digest state) after) in
    sym (cut-at 0 places _ k) ∙ ap (λ (parts : List (List ℕ)). get_or parts k []) all

pub length-front : (version : ℕ) (digest : List ℕ) (state : BoardState) → length digest ≡ 20 → IsWellFormed state.now.board.memory
    → length (file_front version digest state) ≡ 3224
unfolding total
length-front version digest state long sizes =
    ap length (sym (joined-pieces version digest state)) ∙ length-joined (pieces version digest state)
    ∙ ap total (widths-are version digest state long sizes)

-- these pieces, one after another, are the head, and the devices
pub head-is : (digest : List ℕ) (state : BoardState) {version cpu time steps asked : List ℕ} → version ≡ saved_word written_version
    → cpu ≡ processor_bytes state.now.regs → time ≡ saved_long_word state.now.time → steps ≡ saved_long_word state.now.steps
    → asked ≡ saved_long_word state.asked →
    joined_pieces (magic ∷ version ∷ digest ∷ cpu ∷ time ∷ steps ∷ asked ∷ []) ≡ joined_pieces (head written_version digest state)
unfolding head
head-is digest state version cpu time steps asked = cc

pub devices-are : (state : BoardState) {first second third controls due : List ℕ} → first
    ≡ saved_double_word state.now.board.accumulators.first → second ≡ saved_double_word state.now.board.accumulators.second → third
    ≡ saved_double_word state.now.board.accumulators.third → controls ≡ control_bytes state.now.board.memory → due ≡ due_bytes state.due
    → joined_pieces (state.now.board.memory.coordinates ∷ state.now.board.memory.registers ∷ first ∷ second ∷ third ∷ controls ∷ due ∷ [])
    ≡ joined_pieces (devices state)
unfolding devices
devices-are state first second third controls due = cc

pub length-head : (version : ℕ) (digest : List ℕ) (state : BoardState) → length digest ≡ 20
    → length (joined_pieces (head version digest state)) ≡ 82
unfolding head processor_bytes total
length-head version digest state long = length-joined (head version digest state) ∙ rw long refl

pub length-devices : (state : BoardState) → length state.now.board.memory.coordinates ≡ 16
    → length state.now.board.memory.registers ≡ 32 → length (joined_pieces (devices state)) ≡ 70
unfolding devices control_bytes due_bytes total
length-devices state coordinates registers = length-joined (devices state) ∙ rw (coordinates, registers) refl

-- with the three RAMs between them, they are all that comes before the picture
pub front-is : (digest : List ℕ) (state : BoardState) {before after : List ℕ} → before ≡ joined_pieces (head written_version digest state)
    → after ≡ joined_pieces (devices state) →
    joined_pieces (before ∷ state.now.board.memory.tile ∷ state.now.board.memory.colour ∷ state.now.board.memory.work ∷ after ∷ [])
    ≡ file_front written_version digest state
unfolding ram
front-is digest state before after = grind (arith, common_steps)

-- ---- the lines of the picture

lines-before : (lines : List (List ℕ)) → IsPicture lines → (count : ℕ) → count ≤ 224 →
    length (joined_pieces (take count lines)) ≡ 288 * count
lines-before lines picture zero within = refl
lines-before lines picture (suc count) within =
    let wide : length (get_or lines count []) ≡ 288 = picture.wide count (omega (arith, within)) in
    let before = lines-before lines picture count (omega (arith, within)) in
    let more = flat_map-one-more (λ (piece : List ℕ). piece) lines count [] (omega (arith, within)) in
    let next : count + 1 ≡ suc count = omega arith in grind (arith, length-append)

pub length-lines : (lines : List (List ℕ)) → IsPicture lines → length (joined_pieces lines) ≡ 64512
length-lines lines picture =
    let high : length lines ≡ 224 = picture.high in
    let all = take_all 224 lines (omega (arith, high)) in
    subst (λ lines. length (joined_pieces lines) ≡ 64512) all (lines-before lines picture 224 (omega arith))

line-at : (lines : List (List ℕ)) → IsPicture lines → (y : ℕ) → y < 224 →
    bytes_at_place (288 * y) 288 (joined_pieces lines) ≡ get_or lines y []
line-at lines picture y inside =
    let before = lines-before lines picture y (omega (arith, inside)) in
    rw (← flat_map-split (λ (piece : List ℕ). piece) lines y [] (omega (arith, inside)), append_assoc)
    (part-at (288 * y) 288 (joined_pieces (take y lines)) (get_or lines y []) (joined_pieces (drop (y + 1) lines)) before
    (picture.wide y inside))

pub lines-again : (lines : List (List ℕ)) → IsPicture lines → lines_of (joined_pieces lines) ≡ lines
lines-again lines picture =
    sym (tabulate-is lines 224 _ [] picture.high (λ y inside. sym (line-at lines picture y inside)))

-- ---- the digests

pub length-sha1 : (message : List ℕ) → length (sha1 message) ≡ 20
unfolding sha1 digest_bytes
length-sha1 message = refl

-- ---- the whole

pub has-pieces : (version : ℕ) (digest : List ℕ) (state : BoardState) → length digest ≡ 20 → IsWellFormed state.now.board.memory
    → HasPieces version digest state (sealed_file (body version digest state))
has-pieces version digest state long sizes k = rw append_assoc (front-pieces version digest state _ long sizes k)

pub has-picture : (version : ℕ) (digest : List ℕ) (state : BoardState) → length digest ≡ 20 → IsWellFormed state.now.board.memory
    → IsPicture state.now.board.lines →
    bytes_at_place 3224 64512 (sealed_file (body version digest state)) ≡ joined_pieces state.now.board.lines
has-picture version digest state long sizes picture =
    rw append_assoc (part-at 3224 64512 (file_front version digest state) (joined_pieces state.now.board.lines) _
    (length-front version digest state long sizes) (length-lines state.now.board.lines picture))

pub length-body : (version : ℕ) (digest : List ℕ) (state : BoardState) → length digest ≡ 20 → IsWellFormed state.now.board.memory
    → IsPicture state.now.board.lines → length (body version digest state) ≡ 67736
length-body version digest state long sizes picture = grind (arith, length-append, length-front, length-lines)
