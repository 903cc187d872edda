-- What colour numbers pick of a vector, vectors that are woven, and the pixels that come of both.
use Rattle.pac_block.proofs.Common.{Each1-from_get_or, List, SwzOk, SwzOk-from_below, [], arith, coloured, common_steps, drop, ext_get_or}
use Rattle.pac_block.proofs.Common.{flat_map, flat_map-append, get_or, get_or-map, get_or-swz_l_below, get_or-tabulate, length, length-map}
use Rattle.pac_block.proofs.Common.{length-swz_l, map, opaque_pixel, pick_l_whole, range_with_len, refl, replicate, slice_index, suc, swz_l}
use Rattle.pac_block.proofs.Common.{sym, take, take-add, w8, woven, ℕ, ◌++◌, ◌+◌, ◌<◌, ◌∙◌, ◌∷◌, ◌≡◌}
use lib.Lanes.{pick_l}

-- ---- what is picked

pub picks : (numbers : List ℕ) → length numbers ≡ 16 → ((k : ℕ) → k < 16 → slice_index numbers k < 16) → SwzOk w8 16 16 0 numbers
picks numbers long below =
    SwzOk-from_below w8 16 1 16 0 numbers refl (omega (arith, long))
    (Each1-from_get_or (λ number. number < 16) numbers 0 (λ k inside. below k (omega (arith, long, inside))))

pub picked-is : (table numbers : List ℕ) → length numbers ≡ 16 → ((k : ℕ) → k < 16 → slice_index numbers k < 16)
    → swz_l w8 16 table 0 numbers ≡ map (λ number. slice_index table number) numbers
picked-is table numbers long below =
    ext_get_or 0 _ _ (length-swz_l w8 16 table 0 numbers ∙ sym (length-map numbers (λ number. slice_index table number))) (λ k inside.
    grind (arith, get_or-map, get_or-swz_l_below, length-swz_l))

-- ---- what is woven: two vectors lane by lane, in two halves

abbrev half : List ℕ → List ℕ → List ℕ
half xs ys = pick_l 0 (xs ++ ys) (0 ∷ 16 ∷ 1 ∷ 17 ∷ 2 ∷ 18 ∷ 3 ∷ 19 ∷ 4 ∷ 20 ∷ 5 ∷ 21 ∷ 6 ∷ 22 ∷ 7 ∷ 23 ∷ [])

abbrev rest : List ℕ → List ℕ → List ℕ
rest xs ys = pick_l 0 (xs ++ ys) (8 ∷ 24 ∷ 9 ∷ 25 ∷ 10 ∷ 26 ∷ 11 ∷ 27 ∷ 12 ∷ 28 ∷ 13 ∷ 29 ∷ 14 ∷ 30 ∷ 15 ∷ 31 ∷ [])

abbrev by_halves : (reds greens blues : List ℕ) → List ℕ
by_halves reds greens blues =
    let opaque = replicate 16 255 in
    half (half reds blues) (half greens opaque) ++ (rest (half reds blues) (half greens opaque)
    ++ (half (rest reds blues) (rest greens opaque) ++ rest (rest reds blues) (rest greens opaque)))

-- the sixteen lanes of a vector, one by one
abbrev lanes : List ℕ → List ℕ
lanes xs = pick_l 0 xs (range_with_len 0 16)

lanes-woven : (reds greens blues : List ℕ)
    → by_halves (lanes reds) (lanes greens) (lanes blues) ≡ woven (lanes reds) (lanes greens) (lanes blues)
lanes-woven reds greens blues = refl

pub woven-by-halves : (reds greens blues : List ℕ) → length reds ≡ 16 → length greens ≡ 16 → length blues ≡ 16
    → by_halves reds greens blues ≡ woven reds greens blues
woven-by-halves reds greens blues red_long green_long blue_long =
    rw (sym (pick_l_whole 0 reds 16 red_long), sym (pick_l_whole 0 greens 16 green_long), sym (pick_l_whole 0 blues 16 blue_long))
    (lanes-woven reds greens blues)

-- ---- what is picked and woven: pixels

pub woven-pixels : (reds greens blues numbers : List ℕ) → ((k : ℕ) → k < length numbers → get_or numbers k 0 < 16)
    → woven (map (λ number. slice_index reds number) numbers) (map (λ number. slice_index greens number) numbers)
    (map (λ number. slice_index blues number) numbers)
    ≡ flat_map (opaque_pixel (coloured reds greens blues)) numbers
unfolding coloured
woven-pixels reds greens blues [] below = refl
woven-pixels reds greens blues (number ∷ numbers) below =
    let of_number : ℕ → List ℕ = λ n. slice_index reds n ∷ slice_index greens n ∷ slice_index blues n ∷ [] in
    let colour = get_or-tabulate 16 of_number number [] (below 0 (omega arith)) in
    let more = woven-pixels reds greens blues numbers (λ k inside. below (suc k) (omega (arith, inside))) in
    rw (colour, more) refl

-- four parts that follow one another
pub four-parts : (at : ℕ) (old one two three four a b c d : List ℕ) → take (at + 16) one ≡ take at old ++ a
    → take (at + 16 + 16) two ≡ take (at + 16) one ++ b → take (at + 32 + 16) three ≡ take (at + 32) two ++ c
    → take (at + 48 + 16) four ≡ take (at + 48) three ++ d → take (at + 64) four ≡ take at old ++ (a ++ (b ++ (c ++ d)))
four-parts at old one two three four a b c d first second third fourth = grind (arith, common_steps)

-- sixteen elements more
pub sixteen-more : {Y : Type 0} (f : ℕ → List Y) (xs : List ℕ) (at : ℕ)
    → flat_map f (take at xs) ++ flat_map f (take 16 (drop at xs)) ≡ flat_map f (take (at + 16) xs)
sixteen-more f xs at = rw (take-add, flat_map-append)
