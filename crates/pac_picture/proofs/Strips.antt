-- A row of cells, line by line: what is written in it, and what two cells side by side are.
use Rattle.pac_picture.proofs.Common.{AreDrawn, AreLike, Bool, IsDrawn, IsTwin, List, Shadow, VideoRoms, [], arith, beside, cases_eq}
use Rattle.pac_picture.proofs.Common.{cell_differs, false, get_or, get_or-append_right, get_or-map, get_or-tabulate, get_or_append_left}
use Rattle.pac_picture.proofs.Common.{has_marked, if◌then◌else◌, kept_dot, length, length-tabulate, nat_le, nat_lt, nat_tests, pattern_dot}
use Rattle.pac_picture.proofs.Common.{refl, row_dot, shadow_from, slice_index, tabulate, tile_number, tile_pairs, true, twin_dot, ℕ, ◌%◌}
use Rattle.pac_picture.proofs.Common.{◌&&◌, ◌*◌, ◌++◌, ◌+◌, ◌-◌, ◌/◌, ◌<◌, ◌==◌, ◌∙◌, ◌∷◌, ◌≡◌, ◌≢◌, ◌≤◌}
use lib.Lanes.{pick_l}

-- ---- two cells side by side

upper_places : ℕ → ℕ
upper_places x = if nat_lt x 8 then x else x + 8

lower_places : ℕ → ℕ
lower_places x = if nat_lt x 8 then x + 8 else x + 16

upper-are : 0 ∷ 1 ∷ 2 ∷ 3 ∷ 4 ∷ 5 ∷ 6 ∷ 7 ∷ 16 ∷ 17 ∷ 18 ∷ 19 ∷ 20 ∷ 21 ∷ 22 ∷ 23 ∷ [] ≡ tabulate 16 upper_places
unfolding tabulate upper_places
upper-are = refl

lower-are : 8 ∷ 9 ∷ 10 ∷ 11 ∷ 12 ∷ 13 ∷ 14 ∷ 15 ∷ 24 ∷ 25 ∷ 26 ∷ 27 ∷ 28 ∷ 29 ∷ 30 ∷ 31 ∷ [] ≡ tabulate 16 lower_places
unfolding tabulate lower_places
lower-are = refl

pub picked-at : (lanes places : List ℕ) (place : ℕ → ℕ) (x : ℕ) → places ≡ tabulate 16 place → x < 16 →
    get_or (pick_l 0 lanes places) x 0 ≡ get_or lanes (place x) 0
picked-at lanes places place x is below =
    let inside : x < length places = rw (is, length-tabulate) below in
    rw (get_or-map (λ k. get_or lanes k 0) places x 0 0 inside, is, get_or-tabulate 16 place x 0 below)

pub upper-at : (left right : List ℕ) (x : ℕ) → length left ≡ 16 → x < 16 →
    get_or (pick_l 0 (left ++ right) (0 ∷ 1 ∷ 2 ∷ 3 ∷ 4 ∷ 5 ∷ 6 ∷ 7 ∷ 16 ∷ 17 ∷ 18 ∷ 19 ∷ 20 ∷ 21 ∷ 22 ∷ 23 ∷ [])) x 0
    ≡ (if nat_lt x 8 then get_or left x 0 else get_or right (x - 8) 0)
unfolding upper_places
upper-at left right x long below =
    rw (picked-at (left ++ right) _ upper_places x upper-are below)
    (grind (arith, nat_tests, get_or_append_left, get_or-append_right))

pub lower-at : (left right : List ℕ) (x : ℕ) → length left ≡ 16 → x < 16 →
    get_or (pick_l 0 (left ++ right) (8 ∷ 9 ∷ 10 ∷ 11 ∷ 12 ∷ 13 ∷ 14 ∷ 15 ∷ 24 ∷ 25 ∷ 26 ∷ 27 ∷ 28 ∷ 29 ∷ 30 ∷ 31 ∷ [])) x 0
    ≡ (if nat_lt x 8 then get_or left (8 + x) 0 else get_or right x 0)
unfolding lower_places
lower-at left right x long below =
    rw (picked-at (left ++ right) _ lower_places x lower-are below)
    (grind (arith, nat_tests, get_or_append_left, get_or-append_right))

-- ---- a line that is laid, sixteen numbers at a time

pub line-more : (line : List (List ℕ)) (old next : List ℕ) (place : ℕ) → place < 18 →
    ((x : ℕ) → x < 288 → get_or next x 0
    ≡ (if nat_le (16 * place) x && nat_lt x (16 * place + 16) then get_or (get_or line place []) (x - 16 * place) 0 else get_or old x 0)) →
    ((x : ℕ) → x < 16 * place → get_or old x 0 ≡ get_or (get_or line (x / 16) []) (x % 16) 0) →
    (x : ℕ) → x < 16 * (place + 1) → get_or next x 0 ≡ get_or (get_or line (x / 16) []) (x % 16) 0
line-more line old next place inside put done x below = grind (arith, nat_tests, put, done)

-- ---- what a tile's lines are

pub pairs-dot : (roms : VideoRoms) (colour tile x y : ℕ) → x < 8 → y < 8 →
    pattern_dot (tile_pairs roms colour tile) x y ≡ tile_number roms colour tile x y
unfolding tile_pairs
pairs-dot roms colour tile x y across down =
    let column : (8 * (y % 2) + x) % 8 ≡ x = omega (arith, across) in
    let line : 2 * (y / 2) + (8 * (y % 2) + x) / 8 ≡ y = omega (arith, across) in
    grind (arith, get_or-tabulate)

-- two cells of a row
pub twin-is : (roms : VideoRoms) (tiles colours : List ℕ) (place : ℕ) (left right twin : List (List ℕ)) →
    left ≡ tile_pairs roms (slice_index colours (2 * place)) (slice_index tiles (2 * place)) →
    right ≡ tile_pairs roms (slice_index colours (2 * place + 1)) (slice_index tiles (2 * place + 1)) →
    ((x y : ℕ) → x < 16 → y < 8 → twin_dot twin x y ≡ beside left right x y) → IsTwin roms tiles colours place twin
unfolding kept_dot
twin-is roms tiles colours place left right twin is_left is_right are x y here down =
    let dots = are (x % 16) y (omega arith) down in grind (arith, nat_tests, pairs-dot)

-- two cells like those to their left
pub twin-again : (roms : VideoRoms) (tiles colours : List ℕ) (place : ℕ) (twin : List (List ℕ)) → 1 ≤ place → AreLike tiles place →
    AreLike colours place → IsTwin roms tiles colours (place - 1) twin → IsTwin roms tiles colours place twin
unfolding kept_dot
twin-again roms tiles colours place twin some same_tiles same_colours are x y here down =
    let near : x / 8 ≡ 2 * place + x % 16 / 8 = omega (arith, here) in
    let far : (x - 16) / 8 ≡ 2 * (place - 1) + x % 16 / 8 = omega (arith, here, some) in
    let number : (x - 16) % 16 ≡ x % 16 = omega (arith, here, some) in
    let column : (x - 16) % 8 ≡ x % 8 = omega (arith, here, some) in
    rw (near, same_tiles (x % 16 / 8) (omega arith), same_colours (x % 16 / 8) (omega arith))
    (rw (number, far, column) at (are (x - 16) y (omega (arith, here, some)) down))

-- ---- the places of a row that are drawn

-- where all are due, none is at first
pub none-drawn : (roms : VideoRoms) (tiles colours : List ℕ) (lines : List (List (List ℕ))) →
    AreDrawn roms tiles colours (λ _. true) 0 lines
none-drawn roms tiles colours lines x y across down test = grind (arith, nat_tests)

-- elsewhere than at a place it makes no difference whether that is drawn
test-apart : (x place : ℕ) → x / 16 ≢ place → nat_lt x (16 * (place + 1)) ≡ nat_lt x (16 * place)
test-apart x place apart = grind (arith, nat_tests)

-- one more that is drawn
pub drawn-more : (roms : VideoRoms) (tiles colours : List ℕ) (is_due : ℕ → Bool) (old next : List (List (List ℕ))) (place : ℕ)
    (twin : List (List ℕ)) → AreDrawn roms tiles colours is_due place old →
    ((x y : ℕ) → y < 8 → row_dot next x y ≡ (if x / 16 == place then twin_dot twin (x % 16) y else row_dot old x y)) →
    IsTwin roms tiles colours place twin → AreDrawn roms tiles colours is_due (place + 1) next
drawn-more roms tiles colours is_due old next place twin drawn put is x y across down test =
    grind (arith, nat_tests, put, drawn, is, test-apart)

-- one that isn't due
pub drawn-already : (roms : VideoRoms) (tiles colours : List ℕ) (is_due : ℕ → Bool) (lines : List (List (List ℕ))) (place : ℕ) →
    is_due place ≡ false → AreDrawn roms tiles colours is_due place lines → AreDrawn roms tiles colours is_due (place + 1) lines
drawn-already roms tiles colours is_due lines place none drawn x y across down test = grind (arith, nat_tests, drawn)

-- all of them
pub all-drawn : (roms : VideoRoms) (tiles colours : List ℕ) (is_due : ℕ → Bool) (lines : List (List (List ℕ))) (place x y : ℕ) →
    18 ≤ place → AreDrawn roms tiles colours is_due place lines → x < 288 → y < 8 →
    row_dot lines x y ≡ kept_dot roms (shadow_from tiles colours) x y
all-drawn roms tiles colours is_due lines place x y all drawn across down = grind (arith, nat_tests, drawn)

-- neither of two cells is marked: the one of a column isn't
none-marked : (mask : List Bool) (column : ℕ) → has_marked mask (column / 2) ≡ false → get_or mask column false ≡ false
none-marked mask column none = grind (arith, cases_eq (column % 2) 0)

-- where a mask has no cell, those stay that were drawn
pub cells-kept : (roms : VideoRoms) (shadow : Shadow) (tiles colours : List ℕ) (mask : List Bool) (lines : List (List (List ℕ))) →
    IsDrawn roms shadow lines → shadow.is_drawn ≡ true →
    ((column : ℕ) → column < 36 → get_or mask column false ≡ cell_differs shadow tiles colours column) →
    AreDrawn roms tiles colours (has_marked mask) 0 lines
unfolding kept_dot
cells-kept roms shadow tiles colours mask lines drawn fresh masked x y across down test =
    let half : x / 8 / 2 ≡ x / 16 = omega arith in
    let unmarked = none-marked mask (x / 8) in
    let differs = masked (x / 8) (omega (arith, across)) in
    drawn fresh x y across down ∙ grind (arith, nat_tests)
