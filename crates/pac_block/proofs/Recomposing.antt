-- Lines of the picture in a block that are composed again, from the top.
use Rattle.pac_block.proofs.Common.{BoardState, IsPicture, IsState, List, VideoMemory, VideoRoms, [], ap, append_assoc, arith, block_text}
use Rattle.pac_block.proofs.Common.{cases_lt, common_steps, composed_lines, devices, drop, drop-append_seam, drop-cons, drop-drop}
use Rattle.pac_block.proofs.Common.{file_front, flat_map-append, get_or, get_or-append_right, get_or-drop, get_or-tabulate}
use Rattle.pac_block.proofs.Common.{get_or_append_left, head, joined_pieces, length, length-append, length-drop, length-front}
use Rattle.pac_block.proofs.Common.{length-line_of, length-tabulate, line-below, no_digest, picture-is, picture_line, picture_offset, ram}
use Rattle.pac_block.proofs.Common.{refl, rules, state_with_lines, suc, sym, tabulate, take, written_version, zero, ℕ, ◌*◌, ◌++◌, ◌+◌, ◌<◌}
use Rattle.pac_block.proofs.Common.{◌∙◌, ◌∷◌, ◌≡◌, ◌≤◌}

-- ---- a picture composed from the top is one

-- each of its lines is composed, or was there
line-of : (P : List ℕ → Type 0) (value : ℕ → List ℕ) (count : ℕ) (lines : List (List ℕ)) (y : ℕ) → P (value y) → P (get_or lines y [])
    → P (get_or (tabulate count value ++ drop count lines) y [])
line-of P value count lines y made there =
    grind (arith, cases_lt, get_or-append_right, get_or-drop, get_or-tabulate, get_or_append_left, length-tabulate)

pub composed-picture : (roms : VideoRoms) (memory : VideoMemory) (count : ℕ) (lines : List (List ℕ)) → IsPicture lines → count ≤ 224
    → IsPicture (composed_lines roms memory count lines)
composed-picture roms memory count lines picture within =
    let value = picture_line roms memory in
    picture-is _ (simp (length-append, length-tabulate, length-drop) (omega (arith, within)))
    (λ y below. line-of (λ (line : List ℕ). length line ≡ 288) value count lines y (length-line_of roms memory y) (picture.wide y below))
    (λ x y below. line-of (λ (line : List ℕ). get_or line x 0 < 16) value count lines y (line-below roms memory y x) (picture.below x y))

-- ---- one line more in a block

-- a piece of a text with another of its size in its place
spliced : (at : ℕ) (before old new after : List ℕ) → length before ≡ at → length old ≡ length new
    → take at (before ++ (old ++ after)) ++ new ++ drop (at + length new) (before ++ (old ++ after)) ≡ before ++ (new ++ after)
spliced at before old new after here same =
    let last : drop at (before ++ (old ++ after)) ≡ old ++ after = rw (← here) (drop-append_seam before (old ++ after)) in
    let rest : drop (at + length new) (before ++ (old ++ after)) ≡ after =
    rw (← drop-drop (length new) at (before ++ (old ++ after)), last, ← same) (drop-append_seam old after) in grind (arith, common_steps)

-- where the lines that are composed end
lines-long : (value : ℕ → List ℕ) → ((y : ℕ) → length (value y) ≡ 288) → (count : ℕ)
    → length (joined_pieces (tabulate count value)) ≡ 288 * count
unfolding tabulate
lines-long value wide zero = refl
lines-long value wide (suc count) = grind (arith, flat_map-append, length-append, lines-long value wide count)

-- a text with one of its pieces, and what stands before and after that
apart : (front : List ℕ) (before : List (List ℕ)) (piece : List ℕ) (after : List (List ℕ)) (end : List ℕ)
    → (front ++ joined_pieces (before ++ (piece ∷ after))) ++ end
    ≡ (front ++ joined_pieces before) ++ (piece ++ (joined_pieces after ++ end))
apart front before piece after end = simp (flat_map-append, append_assoc)

-- the block of a state with these lines
abbrev with_text : BoardState → List (List ℕ) → List ℕ
with_text state lines = (file_front written_version no_digest state ++ joined_pieces lines) ++ no_digest

front-same : (roms : VideoRoms) (memory : VideoMemory) (count : ℕ) (state : BoardState)
    → file_front written_version no_digest (state_with_lines roms memory count state) ≡ file_front written_version no_digest state
unfolding head ram devices
front-same roms memory count state = refl

text-is : (roms : VideoRoms) (memory : VideoMemory) (count : ℕ) (state : BoardState)
    → block_text (state_with_lines roms memory count state) ≡ with_text state (composed_lines roms memory count state.now.board.lines)
unfolding block_text
text-is roms memory count state = grind (arith, front-same)

-- none yet
pub none-yet : (roms : VideoRoms) (memory : VideoMemory) (state : BoardState) → state_with_lines roms memory 0 state ≡ state
unfolding tabulate
none-yet roms memory state = refl

pub line-put : (roms : VideoRoms) (memory : VideoMemory) (state : BoardState) (y : ℕ) (line old new : List ℕ) → IsState state → y < 224
    → line ≡ picture_line roms memory y → old ≡ block_text (state_with_lines roms memory y state)
    → new ≡ take (picture_offset y) old ++ line ++ drop (picture_offset y + 288) old
    → new ≡ block_text (state_with_lines roms memory (y + 1) state)
unfolding tabulate
line-put roms memory state y line old new is below composed text put =
    let lines = state.now.board.lines in
    let value = picture_line roms memory in
    let front = file_front written_version no_digest state in
    let before = tabulate y value in
    let after = drop (suc y) lines in
    let here = get_or lines y [] in
    let left : drop y lines ≡ here ∷ after = drop-cons lines y [] (omega (arith, below)) in
    let was : old ≡ (front ++ joined_pieces before) ++ (here ++ (joined_pieces after ++ no_digest)) = grind (arith, apart, text-is) in
    let wide : length line ≡ 288 = ap length composed ∙ length-line_of roms memory y in
    let width : length here ≡ length line = is.range.picture.wide y below ∙ sym wide in
    let first = length-front written_version no_digest state refl is.memory in
    let some = lines-long value (length-line_of roms memory) y in
    let both = length-append front (joined_pieces before) in
    let at : length (front ++ joined_pieces before) ≡ picture_offset y = omega (arith, first, some, both) in
    let next : y + 1 ≡ suc y = omega arith in
    let put_there = spliced (picture_offset y) (front ++ joined_pieces before) here line (joined_pieces after ++ no_digest) at width in
    let parted = apart front before (value y) after no_digest in
    let regrouped = append_assoc before (value y ∷ []) after in
    let is_text = text-is roms memory (y + 1) state in
    cc

-- ---- the state

pub recomposed-is-state : (roms : VideoRoms) (memory : VideoMemory) (count : ℕ) (state : BoardState) → count ≤ 224 → IsState state
    → IsState (state_with_lines roms memory count state)
recomposed-is-state roms memory count state within is = search (rules, arith, composed-picture)
