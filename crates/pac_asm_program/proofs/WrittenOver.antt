-- Bytes written over a ROM, item by item from the last to the first.
use Rattle.pac_asm_program.proofs.Common.{Item, List, [], and_from, and_left, and_right, ap, arith, byte_over, bytes_of, cases_lt}
use Rattle.pac_asm_program.proofs.Common.{cond-false, cond-true, fill_by_all, get_or, get_or-after-put_mid, get_or-before-put_mid}
use Rattle.pac_asm_program.proofs.Common.{get_or-in-put_mid, get_or-map-range_with_len, get_or-replicate, le-leb, le-ltb, leb, length}
use Rattle.pac_asm_program.proofs.Common.{length-map-range_with_len, length-put_mid, length-replicate, lt-leb, lt-ltb, map, range_with_len}
use Rattle.pac_asm_program.proofs.Common.{replicate, rom_byte_at, rom_of, rom_size, slice_index, sym, ℕ, ⊎_elim, ◌+◌, ◌-◌, ◌<◌, ◌∙◌, ◌∷◌}
use Rattle.pac_asm_program.proofs.Common.{◌≡◌, ◌≤◌}
use borrow.Rule.Slice.PartMut.{put_mid}

-- an item's byte, where it covers the address and where it doesn't
over-yes : (item : Item) (n other : ℕ) → item.at ≤ n → n < item.at + length (bytes_of item) →
    byte_over item n other ≡ get_or (bytes_of item) (n - item.at) 0
over-yes item n other from below = cond-true _ _ _ (and_from _ _ (le-leb item.at n from)
    (lt-ltb n (item.at + length (bytes_of item)) below))

over-before : (item : Item) (n other : ℕ) → n < item.at → byte_over item n other ≡ other
over-before item n other h = cond-false _ _ _ (and_left (leb item.at n) _ (lt-leb item.at n h))

over-after : (item : Item) (n other : ℕ) → item.at + length (bytes_of item) ≤ n → byte_over item n other ≡ other
over-after item n other h = cond-false _ _ _ (and_right _ _ (le-ltb n (item.at + length (bytes_of item)) h))

-- as many of an item's bytes as a list has room for, written over those that it had
pub written-over : (item : Item) (old ys : List ℕ) (k size : ℕ) → length old ≡ size → item.at + k ≤ size → length ys ≡ k
    → ((j : ℕ) → j < k → get_or ys j 0 ≡ get_or (bytes_of item) j 0) → k ≤ length (bytes_of item)
    → ((n : ℕ) → n < size → item.at + k ≤ n → item.at + length (bytes_of item) ≤ n)
    → put_mid item.at k old ys ≡ map (λ n. byte_over item n (slice_index old n)) (range_with_len 0 size)
written-over item old ys k size long fits whole same part all =
    fill_by_all (λ n. byte_over item n (slice_index old n)) (put_mid item.at k old ys) size 0
    (length-put_mid item.at k old ys (omega arith) whole ∙ long)
    (λ n below.
    ⊎_elim
    (λ (before : n < item.at).
    get_or-before-put_mid item.at k old ys n before (omega arith) ∙ sym (over-before item n (get_or old n 0) before))
    (λ (from : item.at ≤ n).
    ⊎_elim
    (λ (within : n < item.at + k).
    let place : n ≡ item.at + (n - item.at) = omega arith in
    ap (λ m. get_or (put_mid item.at k old ys) m 0) place
    ∙ get_or-in-put_mid item.at k old ys (n - item.at) (omega arith) (omega arith) whole
    ∙ same (n - item.at) (omega arith)
    ∙ sym (over-yes item n (get_or old n 0) from (omega arith)))
    (λ (past : item.at + k ≤ n).
    get_or-after-put_mid item.at k old ys n past (omega arith) whole ∙ sym (over-after item n (get_or old n 0) (all n below past)))
    (cases_lt n (item.at + k)))
    (cases_lt n item.at))

-- an item that begins at the list's end or later has no byte in it
pub left-as-it-is : (item : Item) (old : List ℕ) (size : ℕ) → length old ≡ size → size ≤ item.at
    → old ≡ map (λ n. byte_over item n (slice_index old n)) (range_with_len 0 size)
left-as-it-is item old size long h =
    fill_by_all (λ n. byte_over item n (slice_index old n)) old size 0 long
    (λ n below. sym (over-before item n (get_or old n 0) (omega arith)))

-- the ROM of no items, and that of one item more, which goes first
pub rom-of-none : (old : List ℕ) → old ≡ replicate rom_size 0 → old ≡ rom_of []
unfolding rom_of
rom-of-none old e =
    fill_by_all (λ n. 0) old rom_size 0
    (ap length e ∙ length-replicate {A = ℕ} rom_size 0)
    (λ n below. ap (λ (l : List ℕ). get_or l n 0) e ∙ get_or-replicate rom_size n 0 0 below)

pub rom-of-one-more : (item : Item) (items : List Item)
    → map (λ n. byte_over item n (slice_index (rom_of items) n)) (range_with_len 0 rom_size) ≡ rom_of (item ∷ items)
unfolding rom_of
rom-of-one-more item items =
    let over : ℕ → ℕ = λ n. byte_over item n (slice_index (map (rom_byte_at items) (range_with_len 0 rom_size)) n) in
    fill_by_all (rom_byte_at (item ∷ items)) (map over (range_with_len 0 rom_size)) rom_size 0 (length-map-range_with_len over 0 rom_size)
    (λ n below.
    get_or-map-range_with_len over 0 rom_size n n 0 below (omega arith)
    ∙ ap (byte_over item n) (get_or-map-range_with_len (rom_byte_at items) 0 rom_size n n 0 below (omega arith)))
