-- Sixteen numbers of a sprite at once: painted over others, flipped, and placed where its whole box shows.
use Rattle.pac_picture.proofs.Common.{Bool, List, Sprite, [], arith, box_place, cases_lt, cond, drop, false, flipped_place, get_or}
use Rattle.pac_picture.proofs.Common.{get_or-before-put_mid, get_or-chunk, get_or-drop, get_or-in-put_mid, get_or-put_chunk_above}
use Rattle.pac_picture.proofs.Common.{get_or-put_chunk_at, get_or-replicate, get_or-sel_l, get_or-take, get_or-zip2, get_or_append_left}
use Rattle.pac_picture.proofs.Common.{if◌then◌else◌, ints, is_column_of, length, length-drop, length-put_chunk, length-replicate}
use Rattle.pac_picture.proofs.Common.{length-take-le, length-zip2, map, nat_le, nat_lt, nat_tests, not, over_line, painted_number, pos}
use Rattle.pac_picture.proofs.Common.{refl, replicate, sym, tabulate, tops_compared, ℕ, ℤ, ◌&&◌, ◌++◌, ◌+ℤ◌, ◌+◌, ◌-◌, ◌<◌, ◌∙◌, ◌∷◌, ◌≡◌}
use Rattle.pac_picture.proofs.Common.{◌≤ℤ◌, ◌≤◌}
use mathlib.Core.Logic.{inl, inr}
use lib.Lanes.{zip2, sel_l, top, pick_l, chunk, put_chunk}
use lib.Dec.{eqb}
use borrow.Rule.Slice.PartMut.{mid_of, put_mid}
use mir.Syntax.{w8}
use Rattle.pac_picture.proofs.Strips.{picked-at}

-- ---- numbers painted over others

choice : (test : Bool) (number below : ℕ) → cond test below number ≡ (if not test then number else below)
choice test number below = grind arith

pub blended-at : (numbers below : List ℕ) (k : ℕ) → length numbers ≡ 16 → length below ≡ 16 → k < 16 →
    get_or (sel_l (map (top 7) (zip2 (λ a b. cond (eqb a b) 255 0) numbers (replicate 16 0))) below numbers) k 0
    ≡ painted_number (get_or numbers k 0) (get_or below k 0)
blended-at numbers below k long long_below inside =
    let zeros : List ℕ = replicate 16 0 in
    let long_zeros : length zeros ≡ 16 = length-replicate {A = ℕ} 16 0 in
    let long_tests : length (zip2 eqb numbers zeros) ≡ 16 = length-zip2 eqb numbers zeros (long ∙ sym long_zeros) ∙ long in
    let in_numbers : k < length numbers = omega (arith, long, inside) in
    rw (
      tops_compared w8 eqb numbers zeros,
      get_or-sel_l (zip2 eqb numbers zeros) below numbers k 0 (omega (arith, long_tests, inside)) (omega (arith, long_below, inside))
          in_numbers,
      get_or-zip2 eqb numbers zeros k 0 0 false in_numbers (omega (arith, long_zeros, inside)),
      get_or-replicate {A = ℕ} 16 k 0 0 inside,
    )
    (choice (eqb (get_or numbers k 0) 0) (get_or numbers k 0) (get_or below k 0))

-- ---- flipped numbers

places-are : 15 ∷ 14 ∷ 13 ∷ 12 ∷ 11 ∷ 10 ∷ 9 ∷ 8 ∷ 7 ∷ 6 ∷ 5 ∷ 4 ∷ 3 ∷ 2 ∷ 1 ∷ 0 ∷ [] ≡ tabulate 16 (λ k. 15 - k)
unfolding tabulate
places-are = refl

pub flipped-at : (line : List ℕ) (k : ℕ) → length line ≡ 16 → k < 16 →
    get_or (pick_l 0 (line ++ line) (15 ∷ 14 ∷ 13 ∷ 12 ∷ 11 ∷ 10 ∷ 9 ∷ 8 ∷ 7 ∷ 6 ∷ 5 ∷ 4 ∷ 3 ∷ 2 ∷ 1 ∷ 0 ∷ [])) k 0
    ≡ get_or line (15 - k) 0
flipped-at line k long below =
    let inside : 15 - k < length line = omega (arith, long) in
    picked-at (line ++ line) _ (λ k. 15 - k) k places-are below ∙ get_or_append_left line line 0 (15 - k) inside

-- ---- the columns of a box that shows whole

rest-long : (line : List ℕ) (start : ℕ) → length line ≡ 288 → length (mid_of start (288 - start) line) ≡ 288 - start
rest-long line start long = grind (arith, length-take-le, length-drop)

rest-at : (line : List ℕ) (start k : ℕ) → k < 288 - start → get_or (mid_of start (288 - start) line) k 0 ≡ get_or line (start + k) 0
rest-at line start k inside = get_or-take (288 - start) (drop start line) k 0 inside ∙ get_or-drop start line k 0

-- sixteen numbers that are read as a vector, and that are written as one
pub piece-read : (line : List ℕ) (start k : ℕ) → start ≤ 272 → k < 16 →
    get_or (chunk 0 16 (mid_of start (288 - start) line)) k 0 ≡ get_or line (start + k) 0
piece-read line start k inside below =
    let place : 0 + k ≡ k = omega arith in
    rw (get_or-chunk 0 16 (mid_of start (288 - start) line) k 0 below, place) (rest-at line start k (omega (arith, inside, below)))

pub piece-put : (line piece : List ℕ) (start x : ℕ) → length line ≡ 288 → length piece ≡ 16 → start ≤ 272 → x < 288 →
    get_or (put_mid start (288 - start) line (put_chunk 0 (mid_of start (288 - start) line) piece)) x 0
    ≡ (if nat_le start x && nat_lt x (start + 16) then get_or piece (x - start) 0 else get_or line x 0)
piece-put line piece start x long sixteen inside across =
    let rest : List ℕ = mid_of start (288 - start) line in
    let room : start ≤ length line = omega (arith, long, inside) in
    let wide = rest-long line start long in
    let whole : length (put_chunk 0 rest piece) ≡ 288 - start = length-put_chunk 0 rest piece ∙ wide in
    elim (cases_lt x start) [
      | inl before ↦ rw (get_or-before-put_mid start (288 - start) line (put_chunk 0 rest piece) x before room) (grind (arith, nat_tests))
      | inr past ↦
          let place : x ≡ start + (x - start) = omega (arith, past) in
          let put = get_or-in-put_mid start (288 - start) line (put_chunk 0 rest piece) (x - start) (omega (arith, past, across)) room
          whole in
          let lane = get_or-put_chunk_at 0 rest piece (x - start) 0 in
          let above = get_or-put_chunk_above 0 rest piece (x - start) 0 in
          let under = rest-at line start (x - start) (omega (arith, past, across)) in
          elim (cases_lt x (start + 16)) [ inl near ↦ grind (arith, nat_tests, lane) | inr over ↦ grind (arith, nat_tests, above) ]
    ]

place-in : (left : ℤ) (start x : ℕ) → left ≤ℤ pos start → pos (start + 16) ≤ℤ (left +ℤ pos 16) → start ≤ x → box_place left x ≡ x - start
place-in left start x from until past = grind (arith, ints)

pub box-painted : (line shown old next : List ℕ) (sprite : Sprite) (start x : ℕ) →
    (is_column_of sprite x ≡ (nat_le start x && nat_lt x (start + 16))) →
    sprite.left ≤ℤ pos start → pos (start + 16) ≤ℤ (sprite.left +ℤ pos 16) →
    ((k : ℕ) → k < 16 → get_or shown k 0 ≡ get_or line (flipped_place sprite.flip_x k) 0) →
    get_or next x 0 ≡ (if nat_le start x && nat_lt x (start + 16)
    then painted_number (get_or shown (x - start) 0) (get_or old x 0) else get_or old x 0) →
    get_or next x 0 ≡ over_line line sprite x (get_or old x 0)
unfolding over_line
box-painted line shown old next sprite start x column from until is_shown painted = grind (arith, nat_tests, is_shown, place-in)
