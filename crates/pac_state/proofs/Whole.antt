-- A file whose fields stand as they are written is the text of its state.
use Rattle.pac_state.proofs.Common.{AreWritten, Damaged, List, NoState, None, OtherSet, OtherVersion, Parts, Size, [], append-nil, arith}
use Rattle.pac_state.proofs.Common.{begins_with_magic, body, body_size, bytes_at_place, bytes_eq-Decides, devices, digest_of, drop}
use Rattle.pac_state.proofs.Common.{drop-drop, file_size, flat_map-append, from_le_bytes, get_or, get_or-drop, head, is_of_another_version}
use Rattle.pac_state.proofs.Common.{is_of_set, is_sealed, joined_pieces, le_bytes_2, le_bytes_4, le_bytes_8, length, length-drop}
use Rattle.pac_state.proofs.Common.{length-take-le, lines_of, load_fault, magic, min, not, picture_in, ram, refl, save_text}
use Rattle.pac_state.proofs.Common.{saved_double_word, saved_long_word, saved_word, sha1, state_in, subst, suc, sym, tabulate, take}
use Rattle.pac_state.proofs.Common.{take-add, take-append-drop, take_all, version_in, w16, w32, w64, zero, ℕ, ◌*◌, ◌++◌, ◌+◌, ◌<◌, ◌==◌}
use Rattle.pac_state.proofs.Common.{◌∙◌, ◌∷◌, ◌≡◌, ◌≤◌}
use Rattle.pac_state.proofs.Taken.{below, tested, size-of}

-- ---- parts of a list

pub part-add : (at one other : ℕ) (bytes : List ℕ) →
    bytes_at_place at one bytes ++ bytes_at_place (at + one) other bytes ≡ bytes_at_place at (one + other) bytes
part-add at one other bytes = grind (arith, drop-drop, take-add)

-- pieces of these widths from a place on
unfoldable pub cut : ℕ → List ℕ → List ℕ → List (List ℕ)
cut at [] bytes = []
cut at (width ∷ more) bytes = bytes_at_place at width bytes ∷ cut (at + width) more bytes

unfoldable pub total : List ℕ → ℕ
total [] = 0
total (width ∷ more) = width + total more

joined-cut : (at : ℕ) (widths bytes : List ℕ) → joined_pieces (cut at widths bytes) ≡ bytes_at_place at (total widths) bytes
unfolding cut total
joined-cut at [] bytes = refl
joined-cut at (width ∷ more) bytes = cc (joined-cut (at + width) more bytes, part-add at width (total more) bytes)

pub length-part : (at width : ℕ) (bytes : List ℕ) → at + width ≤ length bytes → length (bytes_at_place at width bytes) ≡ width
length-part at width bytes inside = grind (arith, length-drop, length-take-le)

-- each part of bytes is of bytes
unfoldable pub AreBytes : List ℕ → Type 0
AreBytes bytes = (i : ℕ) → get_or bytes i 0 < 256

take-bytes : (width : ℕ) (bytes : List ℕ) → AreBytes bytes → AreBytes (take width bytes)
unfolding AreBytes
take-bytes (suc width) (x ∷ xs) fits zero = fits 0
take-bytes (suc width) (x ∷ xs) fits (suc i) = take-bytes width xs (λ j. fits (suc j)) i
take-bytes width bytes fits i = omega arith

drop-bytes : (at : ℕ) (bytes : List ℕ) → AreBytes bytes → AreBytes (drop at bytes)
unfolding AreBytes
drop-bytes at bytes fits i = rw get_or-drop (fits (at + i))

pub part-bytes : (at width : ℕ) (bytes : List ℕ) → AreBytes bytes → AreBytes (bytes_at_place at width bytes)
part-bytes at width bytes fits = take-bytes width (drop at bytes) (drop-bytes at bytes fits)

-- ---- numbers, read and written again

word-again : (at : ℕ) (bytes : List ℕ) → AreBytes bytes → at + 2 ≤ length bytes
    → saved_word (from_le_bytes w16 (bytes_at_place at 2 bytes)) ≡ bytes_at_place at 2 bytes
unfolding AreBytes
word-again at bytes fits inside = le_bytes_2 (bytes_at_place at 2 bytes) _ (length-part at 2 bytes inside) (part-bytes at 2 bytes fits) refl

double-again : (at : ℕ) (bytes : List ℕ) → AreBytes bytes → at + 4 ≤ length bytes
    → saved_double_word (from_le_bytes w32 (bytes_at_place at 4 bytes)) ≡ bytes_at_place at 4 bytes
unfolding AreBytes
double-again at bytes fits inside =
    le_bytes_4 (bytes_at_place at 4 bytes) _ (length-part at 4 bytes inside) (part-bytes at 4 bytes fits) refl

long-again : (at : ℕ) (bytes : List ℕ) → AreBytes bytes → at + 8 ≤ length bytes
    → saved_long_word (from_le_bytes w64 (bytes_at_place at 8 bytes)) ≡ bytes_at_place at 8 bytes
unfolding AreBytes
long-again at bytes fits inside = le_bytes_8 (bytes_at_place at 8 bytes) _ (length-part at 8 bytes inside) (part-bytes at 8 bytes fits) refl

-- ---- the groups of pieces

same-seven : {a b c d e f g a' b' c' d' e' f' g' : List ℕ} → a ≡ a' → b ≡ b' → c ≡ c' → d ≡ d' → e ≡ e' → f ≡ f' → g ≡ g'
    → joined_pieces (a ∷ b ∷ c ∷ d ∷ e ∷ f ∷ g ∷ []) ≡ joined_pieces (a' ∷ b' ∷ c' ∷ d' ∷ e' ∷ f' ∷ g' ∷ [])
same-seven a b c d e f g = rw (a, b, c, d, e, f, g) refl

head-is : (of_set bytes : List ℕ) → AreBytes bytes → length bytes ≡ file_size → magic ≡ bytes_at_place 0 8 bytes
    → of_set ≡ bytes_at_place 10 20 bytes → AreWritten (state_in bytes) bytes
    → joined_pieces (head (version_in bytes) of_set (state_in bytes)) ≡ bytes_at_place 0 82 bytes
unfolding head cut total
head-is of_set bytes fits size start digest written =
    let word = word-again 8 bytes fits (omega (arith, size)) in
    let time = long-again 58 bytes fits (omega (arith, size)) in
    let steps = long-again 66 bytes fits (omega (arith, size)) in
    let asked = long-again 74 bytes fits (omega (arith, size)) in
    cc (joined-cut 0 (8 ∷ 2 ∷ 20 ∷ 28 ∷ 8 ∷ 8 ∷ 8 ∷ []) bytes, start, word, digest, written.processor, time, steps, asked)

ram-is : (bytes : List ℕ) → joined_pieces (ram (state_in bytes)) ≡ bytes_at_place 82 3072 bytes
unfolding ram cut total
ram-is bytes = joined-cut 82 (1024 ∷ 1024 ∷ 1024 ∷ []) bytes

devices-is : (bytes : List ℕ) → AreBytes bytes → length bytes ≡ file_size → AreWritten (state_in bytes) bytes
    → joined_pieces (devices (state_in bytes)) ≡ bytes_at_place 3154 70 bytes
unfolding devices cut total
devices-is bytes fits size written =
    same-seven {a = bytes_at_place 3154 16 bytes} {b = bytes_at_place 3170 32 bytes} refl refl
    (double-again 3202 bytes fits (omega (arith, size))) (double-again 3206 bytes fits (omega (arith, size)))
    (double-again 3210 bytes fits (omega (arith, size))) written.controls written.due
    ∙ joined-cut 3154 (16 ∷ 32 ∷ 4 ∷ 4 ∷ 4 ∷ 7 ∷ 3 ∷ []) bytes

lines-joined : (count : ℕ) (picture : List ℕ) →
    joined_pieces (tabulate count (λ y. bytes_at_place (288 * y) 288 picture)) ≡ bytes_at_place 0 (288 * count) picture
unfolding tabulate
lines-joined zero picture = refl
lines-joined (suc count) picture =
    let here : 0 + 288 * count ≡ 288 * count = omega arith in
    let next : 288 * count + 288 ≡ 288 * suc count = omega arith in
    rw (flat_map-append, append-nil) (cc (lines-joined count picture, here, part-add 0 (288 * count) 288 picture, next))

lines-are : (bytes : List ℕ) → length bytes ≡ file_size → joined_pieces (lines_of (picture_in bytes)) ≡ bytes_at_place 3224 64512 bytes
lines-are bytes size =
    let long = length-part 3224 64512 bytes (omega (arith, size)) in
    lines-joined 224 (picture_in bytes) ∙ take_all 64512 (picture_in bytes) (omega (arith, long))

-- ---- the whole

pub body-is : (of_set bytes : List ℕ) → AreBytes bytes → length bytes ≡ file_size → magic ≡ bytes_at_place 0 8 bytes
    → of_set ≡ bytes_at_place 10 20 bytes → AreWritten (state_in bytes) bytes
    → body (version_in bytes) of_set (state_in bytes) ≡ bytes_at_place 0 67736 bytes
body-is of_set bytes fits size start digest written =
    let first = head-is of_set bytes fits size start digest written in
    let third = devices-is bytes fits size written in
    cc (first, ram-is bytes, third, part-add 0 82 3072 bytes, part-add 0 3154 70 bytes, lines-are bytes size, part-add 0 3224 64512 bytes)

pub text-of : (set : Parts) (bytes : List ℕ) → ((i : ℕ) → get_or bytes i 0 < 256) → load_fault (digest_of set) bytes ≡ None
    → AreWritten (state_in bytes) bytes → save_text (version_in bytes) set (state_in bytes) ≡ bytes
unfolding load_fault AreBytes
text-of set bytes fits none written =
    let size = size-of (digest_of set) bytes none in
    let begun = tested (begins_with_magic bytes) NoState _ none in
    let second = below (is_of_another_version bytes) OtherVersion _ (below (not (begins_with_magic bytes)) NoState _ none) in
    let third = below (not (length bytes == file_size)) Size _ second in
    let closed = tested (is_sealed bytes) Damaged _ third in
    let same = tested (is_of_set (digest_of set) bytes) OtherSet _ (below (not (is_sealed bytes)) Damaged _ third) in
    let start =
    subst (λ n. take (min 8 n) bytes ≡ take (min 8 n) magic) size
    ((bytes_eq-Decides (take (min 8 (length bytes)) bytes) (take (min 8 (length bytes)) magic)).0 begun) in
    let digest = (bytes_eq-Decides (digest_of set) (bytes_at_place 10 20 bytes)).0 same in
    let seal = (bytes_eq-Decides (sha1 (take body_size bytes)) (drop body_size bytes)).0 closed in
    let before = body-is (digest_of set) bytes fits size (sym start) digest written in cc (before, seal, take-append-drop body_size bytes)
