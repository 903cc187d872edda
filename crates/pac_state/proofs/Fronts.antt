-- A block with another front: of a block, and of zeros, the picture of which is black.
use Rattle.pac_state.proofs.Common.{BoardState, IsBlock, IsFrontOf, IsState, IsWellFormed, List, ap, append-nil, append_assoc, arith, black}
use Rattle.pac_state.proofs.Common.{block_text, body, bytes_at_place, common_steps, drop, drop-append_seam, drop-replicate, file_size}
use Rattle.pac_state.proofs.Common.{flat_map-append, joined_pieces, length, length-append, lines_of, no_digest, picture_in, refl, replicate}
use Rattle.pac_state.proofs.Common.{replicate-append-replicate, rules, sealed_file, state_in, suc, sym, tabulate, tabulate-same}
use Rattle.pac_state.proofs.Common.{take-replicate, written_version, zero, ℕ, ◌*◌, ◌++◌, ◌+◌, ◌-◌, ◌∙◌, ◌≡◌, ◌≤◌}
use Rattle.pac_state.proofs.Files.{sizes}
use Rattle.pac_state.proofs.Written.{length-front, length-body, length-sha1}

-- ---- another front of a block

-- a front, and what follows it in the block of a state with these lines
with-front : (front rest : List ℕ) (state : BoardState) → IsFrontOf state front
    → rest ≡ joined_pieces state.now.board.lines ++ no_digest → front ++ rest ≡ block_text state
unfolding block_text
with-front front rest state is after = grind (arith, common_steps)

-- what follows the front in the block of a state
after-front : (state : BoardState) → IsWellFormed state.now.board.memory
    → drop 3224 (block_text state) ≡ joined_pieces state.now.board.lines ++ no_digest
unfolding block_text
after-front state formed = rw (append_assoc, ← length-front written_version no_digest state refl formed, drop-append_seam)

pub front-changed : (old front : List ℕ) (state : BoardState) → length old ≡ file_size → IsBlock old → IsFrontOf state front
    → state.now.board.lines ≡ (state_in old).now.board.lines → front ++ drop 3224 old ≡ block_text state
front-changed old front state size block is same =
    with-front front (drop 3224 old) state is (cc (block.text, after-front (state_in old) (sizes old size block.in_range), same))

-- ---- zeros

joined-zeros : (count width : ℕ) → joined_pieces (tabulate count (λ _. replicate width 0)) ≡ replicate (count * width) 0
unfolding tabulate
joined-zeros zero width = search rules
joined-zeros (suc count) width =
    grind (arith, flat_map-append, append-nil, joined-zeros count width, replicate-append-replicate)

rest-of-zeros : (front count width all : ℕ) → all ≡ front + (count * width + 20)
    → drop front (replicate all 0) ≡ joined_pieces (tabulate count (λ _. replicate width 0)) ++ no_digest
rest-of-zeros front count width all parts =
    let left : all - front ≡ count * width + 20 = omega (arith, parts) in
    drop-replicate front all 0
    ∙ ap (λ (n : ℕ). replicate n 0) left
    ∙ sym (replicate-append-replicate (count * width) 20 0)
    ∙ ap (λ (lines : List ℕ). lines ++ no_digest) (sym (joined-zeros count width))

-- zeros are a block once they have the front of a state whose picture is black
pub front-of-zeros : (front : List ℕ) (state : BoardState) → IsFrontOf state front → state.now.board.lines ≡ black
    → front ++ drop 3224 (replicate file_size 0) ≡ block_text state
unfolding black
front-of-zeros front state is same =
    with-front front (drop 3224 (replicate file_size 0)) state is (cc (rest-of-zeros 3224 224 288 file_size (omega arith), same))

-- the part of zeros that a line has
line-of-zeros : (at size all : ℕ) → at + size ≤ all → bytes_at_place at size (replicate all 0) ≡ replicate size 0
line-of-zeros at size all within = rw drop-replicate (take-replicate size (all - at) 0 (omega (arith, within)))

-- and their picture is black
pub lines-of-zeros : lines_of (picture_in (replicate file_size 0)) ≡ black
unfolding black
lines-of-zeros =
    rw (line-of-zeros 3224 64512 file_size (omega arith))
    (tabulate-same 224 _ _ (λ y below. line-of-zeros (288 * y) 288 64512 (omega (arith, below))))

-- ---- files

pub file-size : (digest : List ℕ) (state : BoardState) → length digest ≡ 20 → IsState state
    → length (sealed_file (body written_version digest state)) ≡ file_size
file-size digest state size is = grind (arith, length-append, length-body, length-sha1)
