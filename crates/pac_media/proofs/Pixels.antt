-- What colour numbers pick of a vector, vectors that are woven, and the pixels that come of both.
use Rattle.pac_media.proofs.Common.{ArePlanes, Each1-from_get_or, List, SwzOk, SwzOk-from_below, [], append_assoc, arith, ext_get_or}
use Rattle.pac_media.proofs.Common.{flat_map, get_or, get_or-map, get_or-swz_l_below, length, length-map, length-swz_l, map, palette_colour}
use Rattle.pac_media.proofs.Common.{pick_l_whole, range_with_len, refl, rgb_pixels, slice_index, suc, swz_l, sym, take, take_all, w8, ℕ}
use Rattle.pac_media.proofs.Common.{◌++◌, ◌+◌, ◌<◌, ◌∙◌, ◌∷◌, ◌≡◌}
use lib.Lanes.{pick_l}

-- ---- what is picked

pub picks : (numbers : List ℕ) → length numbers ≡ 16 → ((k : ℕ) → k < 16 → slice_index numbers k < 16) → SwzOk w8 16 16 0 numbers
picks numbers long below =
    SwzOk-from_below w8 16 1 16 0 numbers refl (omega (arith, long))
    (Each1-from_get_or (λ number. number < 16) numbers 0 (λ k inside. below k (omega (arith, long, inside))))

pub picked-is : (plane numbers : List ℕ) → length numbers ≡ 16 → ((k : ℕ) → k < 16 → slice_index numbers k < 16)
    → swz_l w8 16 plane 0 numbers ≡ map (λ number. slice_index plane number) numbers
picked-is plane numbers long below =
    ext_get_or 0 _ _ (length-swz_l w8 16 plane 0 numbers ∙ sym (length-map numbers (λ number. slice_index plane number)))
    (λ k inside. grind (arith, get_or-map, get_or-swz_l_below, length-swz_l))

-- ---- what is woven: red and green lane by lane, in halves, and blue between them

abbrev left : List ℕ → List ℕ → List ℕ
left xs ys = pick_l 0 (xs ++ ys) (0 ∷ 16 ∷ 1 ∷ 17 ∷ 2 ∷ 18 ∷ 3 ∷ 19 ∷ 4 ∷ 20 ∷ 5 ∷ 21 ∷ 6 ∷ 22 ∷ 7 ∷ 23 ∷ [])

abbrev right : List ℕ → List ℕ → List ℕ
right xs ys = pick_l 0 (xs ++ ys) (8 ∷ 24 ∷ 9 ∷ 25 ∷ 10 ∷ 26 ∷ 11 ∷ 27 ∷ 12 ∷ 28 ∷ 13 ∷ 29 ∷ 14 ∷ 30 ∷ 15 ∷ 31 ∷ [])

abbrev middle : List ℕ → List ℕ → List ℕ
middle xs ys =
    pick_l 0 (left xs ys ++ right xs ys) (8 ∷ 9 ∷ 10 ∷ 11 ∷ 12 ∷ 13 ∷ 14 ∷ 15 ∷ 16 ∷ 17 ∷ 18 ∷ 19 ∷ 20 ∷ 21 ∷ 22 ∷ 23 ∷ [])

abbrev by_parts : (reds greens blues : List ℕ) → List ℕ
by_parts reds greens blues =
    pick_l 0 (left reds greens ++ blues) (0 ∷ 1 ∷ 16 ∷ 2 ∷ 3 ∷ 17 ∷ 4 ∷ 5 ∷ 18 ∷ 6 ∷ 7 ∷ 19 ∷ 8 ∷ 9 ∷ 20 ∷ 10 ∷ [])
    ++ (pick_l 0 (middle reds greens ++ blues) (3 ∷ 21 ∷ 4 ∷ 5 ∷ 22 ∷ 6 ∷ 7 ∷ 23 ∷ 8 ∷ 9 ∷ 24 ∷ 10 ∷ 11 ∷ 25 ∷ 12 ∷ 13 ∷ [])
    ++ pick_l 0 (right reds greens ++ blues) (26 ∷ 6 ∷ 7 ∷ 27 ∷ 8 ∷ 9 ∷ 28 ∷ 10 ∷ 11 ∷ 29 ∷ 12 ∷ 13 ∷ 30 ∷ 14 ∷ 15 ∷ 31 ∷ []))

-- the sixteen lanes of a vector, one by one
abbrev lanes : List ℕ → List ℕ
lanes xs = pick_l 0 xs (range_with_len 0 16)

lanes-woven : (reds greens blues : List ℕ)
    → by_parts (lanes reds) (lanes greens) (lanes blues) ≡ rgb_pixels (lanes reds) (lanes greens) (lanes blues)
lanes-woven reds greens blues = refl

pub woven-by-parts : (reds greens blues : List ℕ) → length reds ≡ 16 → length greens ≡ 16 → length blues ≡ 16
    → by_parts reds greens blues ≡ rgb_pixels reds greens blues
woven-by-parts reds greens blues red_long green_long blue_long =
    rw (sym (pick_l_whole 0 reds 16 red_long), sym (pick_l_whole 0 greens 16 green_long), sym (pick_l_whole 0 blues 16 blue_long))
    (lanes-woven reds greens blues)

-- ---- what is picked and woven: pixels

pub woven-pixels : (colours : List (List ℕ)) (reds greens blues numbers : List ℕ) → ArePlanes colours reds greens blues
    → ((k : ℕ) → k < length numbers → get_or numbers k 0 < 16)
    → rgb_pixels (map (λ number. slice_index reds number) numbers) (map (λ number. slice_index greens number) numbers)
    (map (λ number. slice_index blues number) numbers)
    ≡ flat_map (palette_colour colours) numbers
woven-pixels colours reds greens blues [] made below = refl
woven-pixels colours reds greens blues (number ∷ numbers) made below =
    let more = woven-pixels colours reds greens blues numbers made (λ k inside. below (suc k) (omega (arith, inside))) in
    rw ((made number (below 0 (omega arith))), more) refl

-- three parts that follow one another and are all
pub three-parts : (old one two three a b c : List ℕ) → take (0 + 16) one ≡ take 0 old ++ a
    → take (16 + 16) two ≡ take 16 one ++ b → take (32 + 16) three ≡ take 32 two ++ c → length three ≡ 48
    → three ≡ a ++ (b ++ c)
three-parts old one two three a b c first second third long =
    rw (← take_all 48 three (omega (arith, long)), third, second, first) (append_assoc a b c)
