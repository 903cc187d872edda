-- Blocks of states: what stands in them, and which bytes are blocks.
use Rattle.pac_state.proofs.Common.{BoardState, Fields, IsBlock, IsFramed, IsPicture, IsState, IsText, IsWellFormed, List, None, Option}
use Rattle.pac_state.proofs.Common.{Some, TellsFields, [], ap, append_assoc, arith, block_text, body, bytes_at_place}
use Rattle.pac_state.proofs.Common.{file_front, file_size, flat_map, flat_map-split, from_le_bytes, from_le_bytes-to_le_bytes_2, get_or}
use Rattle.pac_state.proofs.Common.{joined_pieces, length, length-append, no_digest, refl, state_in, subst, sym, take, take_all, w16}
use Rattle.pac_state.proofs.Common.{written_version, ℕ, ◌+◌, ◌<◌, ◌∙◌, ◌≡◌, ◌≤◌}
use Rattle.pac_state.proofs.Again.{same-again}
use Rattle.pac_state.proofs.Files.{sizes}
use Rattle.pac_state.proofs.Whole.{AreBytes, part-add, body-is}
use Rattle.pac_state.proofs.Written.{HasPieces, front-pieces, part-at, length-front, length-lines, length-body}

-- ---- the block of a state

block-pieces : (state : BoardState) → IsWellFormed state.now.board.memory → HasPieces written_version no_digest state (block_text state)
unfolding block_text
block-pieces state formed k = rw append_assoc (front-pieces written_version no_digest state _ refl formed k)

block-end : (state : BoardState) → IsWellFormed state.now.board.memory → IsPicture state.now.board.lines
    → bytes_at_place 67736 20 (block_text state) ≡ no_digest
unfolding block_text
block-end state formed picture = part-at 67736 20 (body written_version no_digest state) no_digest [] (grind (arith, length-body)) refl

block-picture : (state : BoardState) → IsWellFormed state.now.board.memory → IsPicture state.now.board.lines
    → bytes_at_place 3224 64512 (block_text state) ≡ joined_pieces state.now.board.lines
unfolding block_text
block-picture state formed picture =
    rw append_assoc (part-at 3224 64512 (file_front written_version no_digest state) (joined_pieces state.now.board.lines) no_digest
    (length-front written_version no_digest state refl formed) (length-lines state.now.board.lines picture))

pub block-again : (state : BoardState) → IsState state → state_in (block_text state) ≡ state
block-again state is =
    same-again written_version no_digest (block_text state) state is (block-pieces state is.memory)
    (block-picture state is.memory is.range.picture)

pub is-block : (state : BoardState) → IsState state → IsBlock (block_text state)
is-block state is =
    let same = block-again state is in record { in_range = rw same is.range; text = rw same }

-- ---- bytes that are a block

pub framed-of : (bytes : List ℕ) → length bytes ≡ file_size → IsBlock bytes → IsFramed bytes
framed-of bytes size block =
    let well = sizes bytes size block.in_range in
    let pieces = subst (HasPieces written_version no_digest (state_in bytes)) (sym block.text) (block-pieces (state_in bytes) well) in
    let end = ap (bytes_at_place 67736 20) block.text ∙ block-end (state_in bytes) well block.in_range.picture in
    record {
      magic = sym (pieces 0);
      version = ap (from_le_bytes w16) (pieces 1) ∙ from_le_bytes-to_le_bytes_2 2 (omega arith);
      digests = record { set = sym (pieces 2); end = sym end };
    }

text-of-block : (bytes : List ℕ) → length bytes ≡ file_size → IsBlock bytes → IsText bytes
text-of-block bytes size block =
    let pieces = subst (HasPieces written_version no_digest (state_in bytes)) (sym block.text)
    (block-pieces (state_in bytes) (sizes bytes size block.in_range)) in
    record { in_range = block.in_range; written = record { processor = sym (pieces 3); controls = sym (pieces 15); due = sym (pieces 16) } }

block-of : (bytes : List ℕ) → AreBytes bytes → length bytes ≡ file_size → IsFramed bytes → IsText bytes → IsBlock bytes
unfolding block_text
block-of bytes fits size framed text =
    let before = body-is no_digest bytes fits size framed.magic framed.digests.set text.written in
    record {
      in_range = text.in_range;
      text = cc (before, framed.version, framed.digests.end, part-add 0 67736 20 bytes, take_all 67756 bytes (omega (arith, size)));
    }

pub reads-block : (bytes : List ℕ) → ((i : ℕ) → get_or bytes i 0 < 256) → length bytes ≡ file_size → IsFramed bytes
    → (result : Option Fields) → TellsFields IsText bytes result → TellsFields IsBlock bytes result
unfolding AreBytes
reads-block bytes fits size framed (Some fields) reads =
    record { holds = block-of bytes fits size framed reads.holds; state = reads.state; in_range = reads.in_range }
reads-block bytes fits size framed None reads = λ (block : IsBlock bytes). reads (text-of-block bytes size block)

-- ---- pieces written one after another

-- the next piece fits where all of them do
pub next-fits : {X : Type 0} (f : X → List ℕ) (pieces : List X) (k : ℕ) (default : X) (at end size : ℕ) → k < length pieces
    → end ≡ at + length (flat_map f (take k pieces)) → at + length (flat_map f pieces) ≤ size
    → end + length (f (get_or pieces k default)) ≤ size
next-fits f pieces k default at end size inside here room =
    omega (arith, simp length-append at (ap length (flat_map-split f pieces k default inside)), here, room)
