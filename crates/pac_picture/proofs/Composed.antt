-- Lines of the picture, whole.
use Rattle.pac_picture.proofs.Common.{Bool, IsPicture, List, Sprite, VideoMemory, VideoRoms, [], arith, black, cases_eq, cases_lt, dot}
use Rattle.pac_picture.proofs.Common.{drawn_from, find, get_or, get_or-eq_default, get_or-replicate-all, get_or-reverse, get_or-set_other}
use Rattle.pac_picture.proofs.Common.{get_or-set_same, get_or-tabulate, if◌then◌else◌, is_opaque, kept_dot, length, length-replicate}
use Rattle.pac_picture.proofs.Common.{length-reverse, length-set, length-tabulate, lines_composed, painted_number, picture_line, picture_of}
use Rattle.pac_picture.proofs.Common.{replicate, reverse, set, set-one-more, slice_index, source_of, sprite_at, sprite_dot, sprite_number}
use Rattle.pac_picture.proofs.Common.{suc, tabulate, tabulate-is, tile_dot, tile_number, unwrap_or, zero, ℕ, ◌+◌, ◌-◌, ◌/◌, ◌<◌, ◌∙◌, ◌≡◌}
use Rattle.pac_picture.proofs.Common.{◌≤◌}
use Rattle.pac_picture.proofs.Painted.{painted, painted-first}
use Rattle.pac_picture.proofs.Layers.{dot-drawn}

-- the dots of a painted line
dots-are : (roms : VideoRoms) (memory : VideoMemory) (source : ℕ) (laid row : List ℕ) →
    laid ≡ tabulate 288 (λ x. kept_dot roms (drawn_from memory (source / 8)) x source) →
    ((x : ℕ) → x < 288 → slice_index row x
    ≡ unwrap_or (find is_opaque (tabulate 8 (λ k. sprite_dot roms (sprite_at memory k) x source))) (slice_index laid x)) →
    (x : ℕ) → x < 288 → get_or row x 0 ≡ dot roms memory x source
unfolding dot
dots-are roms memory source laid row is number_is x across =
    let laid_there = get_or-tabulate 288 (λ (x : ℕ). kept_dot roms (drawn_from memory (source / 8)) x source) x 0 across in
    let below = dot-drawn roms memory x source across in grind (arith, number_is)

-- a line turned, or left
turned : (roms : VideoRoms) (memory : VideoMemory) (y : ℕ) (flip : Bool) (row shown : List ℕ) → length row ≡ 288 →
    ((x : ℕ) → x < 288 → get_or row x 0 ≡ dot roms memory x (if flip then 223 - y else y)) →
    shown ≡ (if flip then reverse row else row) →
    shown ≡ tabulate 288 (λ x. if flip then dot roms memory (287 - x) (223 - y) else dot roms memory x y)
turned roms memory y flip row shown long dots is =
    tabulate-is shown 288 _ 0 (grind (arith, length-reverse)) (λ x across. grind (arith, get_or-reverse))

pub line-is : (roms : VideoRoms) (memory : VideoMemory) (y : ℕ) (laid row shown : List ℕ) →
    laid ≡ tabulate 288 (λ x. kept_dot roms (drawn_from memory (source_of memory y / 8)) x (source_of memory y)) →
    ((x : ℕ) → x < 288 → slice_index row x
    ≡ unwrap_or (find is_opaque (tabulate 8 (λ k. sprite_dot roms (sprite_at memory k) x (source_of memory y)))) (slice_index laid x)) →
    length row ≡ 288 → shown ≡ (if memory.flip then reverse row else row) → shown ≡ picture_line roms memory y
unfolding picture_line
line-is roms memory y laid row shown is number_is long turn =
    turned roms memory y memory.flip row shown long (dots-are roms memory (source_of memory y) laid row is number_is) turn

-- colour numbers are below 16
tile-below : (roms : VideoRoms) (memory : VideoMemory) (x y : ℕ) → tile_dot roms memory x y < 16
unfolding tile_dot tile_number
tile-below roms memory x y = omega arith

sprite-below : (roms : VideoRoms) (sprite : Sprite) (x y : ℕ) → sprite_dot roms sprite x y < 16
unfolding sprite_dot sprite_number
sprite-below roms sprite x y = grind arith

over-below : (number below : ℕ) → number < 16 → below < 16 → painted_number number below < 16
over-below number below one other = grind arith

painted-below : (count : ℕ) (numbers : ℕ → ℕ) (below : ℕ) → ((k : ℕ) → numbers k < 16) → below < 16 → painted count numbers below < 16
unfolding painted
painted-below zero numbers below each under = under
painted-below (suc count) numbers below each under = grind (arith, over-below, each, painted-below count numbers below each under)

dot-below : (roms : VideoRoms) (memory : VideoMemory) (x y : ℕ) → dot roms memory x y < 16
unfolding dot
dot-below roms memory x y =
    rw painted-first at
    (painted-below 8 (λ k. sprite_dot roms (sprite_at memory k) x y) (tile_dot roms memory x y)
    (λ k. sprite-below roms (sprite_at memory k) x y) (tile-below roms memory x y))

either-below : (roms : VideoRoms) (memory : VideoMemory) (flip : Bool) (x y : ℕ) →
    (if flip then dot roms memory (287 - x) (223 - y) else dot roms memory x y) < 16
either-below roms memory flip x y = grind (arith, dot-below)

pub line-below : (roms : VideoRoms) (memory : VideoMemory) (y x : ℕ) → get_or (picture_line roms memory y) x 0 < 16
unfolding picture_line
line-below roms memory y x = grind (arith, cases_lt, get_or-tabulate, either-below, get_or-eq_default, length-tabulate)

pub length-line_of : (roms : VideoRoms) (memory : VideoMemory) (y : ℕ) → length (picture_line roms memory y) ≡ 288
unfolding picture_line
length-line_of roms memory y = length-tabulate 288 _

-- a picture of lines that have its width and its numbers
beyond : (lines : List (List ℕ)) (x y : ℕ) → length lines ≤ y → get_or (get_or lines y []) x 0 < 16
beyond lines x y past = grind (arith, get_or-eq_default)

pub picture-is : (lines : List (List ℕ)) → length lines ≡ 224 →
    ((y : ℕ) → y < 224 → length (get_or lines y []) ≡ 288) →
    ((x y : ℕ) → y < 224 → get_or (get_or lines y []) x 0 < 16) → IsPicture lines
picture-is lines high wide numbers = record { high = high; wide = wide; below = λ x y. grind (arith, cases_lt, beyond, numbers) }

-- one line set
pub set-picture : (lines : List (List ℕ)) (y : ℕ) (line : List ℕ) → IsPicture lines → y < 224 → length line ≡ 288 →
    ((x : ℕ) → get_or line x 0 < 16) → IsPicture (set lines y line)
set-picture lines y line picture down long numbers =
    let room : y < length lines = omega (arith, down, picture.high) in
    picture-is (set lines y line) (length-set lines y line ∙ picture.high)
    (λ k below. grind (arith, cases_eq k y, get_or-set_same, get_or-set_other, picture.wide))
    (λ x k below. grind (arith, cases_eq k y, get_or-set_same, get_or-set_other, picture.below, numbers))

-- all lines composed
pub all-composed : (roms : VideoRoms) (memory : VideoMemory) (lines : List (List ℕ)) → length lines ≡ 224 →
    ((k : ℕ) → k < 224 → get_or lines k [] ≡ picture_line roms memory k) → lines ≡ picture_of roms memory
unfolding picture_of
all-composed roms memory lines high done = tabulate-is lines 224 (picture_line roms memory) [] high done

pub composed-picture : (roms : VideoRoms) (memory : VideoMemory) (lines : List (List ℕ)) → length lines ≡ 224 →
    ((k : ℕ) → k < 224 → get_or lines k [] ≡ picture_line roms memory k) → IsPicture lines
composed-picture roms memory lines high done =
    picture-is lines high (λ y down. rw (done y down) (length-line_of roms memory y))
    (λ x y down. rw (done y down) (line-below roms memory y x))

black-wide : (count : ℕ) (lines : List (List ℕ)) → lines ≡ tabulate 224 (λ _. replicate count 0) →
    (y : ℕ) → y < 224 → length (get_or lines y []) ≡ count
black-wide count lines is y down = grind (arith, get_or-tabulate, length-replicate)

black-below : (count : ℕ) (lines : List (List ℕ)) → lines ≡ tabulate 224 (λ _. replicate count 0) →
    (x y : ℕ) → y < 224 → get_or (get_or lines y []) x 0 < 16
black-below count lines is x y down =
    rw (is, get_or-tabulate 224 (λ (_ : ℕ). replicate {A = ℕ} count 0) y [] down, get_or-replicate-all {A = ℕ} count x 0) (omega arith)

pub black-picture : (lines : List (List ℕ)) → lines ≡ black → IsPicture lines
unfolding black
black-picture lines is =
    picture-is lines (rw is (length-tabulate 224 _)) (black-wide 288 lines is) (black-below 288 lines is)

-- one line more of a picture that is composed from the top
pub lines-step : (roms : VideoRoms) (memory : VideoMemory) (lines : List (List ℕ)) (y : ℕ) (line : List ℕ) → y < length lines →
    line ≡ picture_line roms memory y →
    ((k : ℕ) → k < y → get_or lines k [] ≡ picture_line roms memory k) →
    (k : ℕ) → k < y + 1 → get_or (set lines y line) k [] ≡ picture_line roms memory k
lines-step roms memory lines y line inside is done = set-one-more lines (picture_line roms memory) y line [] inside is done

pub source-row : (memory : VideoMemory) (y : ℕ) → y < 224 → source_of memory y / 8 < 28
source-row memory y below = grind arith

-- one line more of some that are composed one after another
pub line-on : (roms : VideoRoms) (memory : VideoMemory) (lines : List (List ℕ)) (first y : ℕ) (now new : List (List ℕ)) → first ≤ y →
    now ≡ lines_composed roms memory lines first (y - first) → new ≡ set now y (picture_line roms memory y) →
    new ≡ lines_composed roms memory lines first (y + 1 - first)
line-on roms memory lines first y now new later so_far is =
    let next : y + 1 - first ≡ suc (y - first) = omega (arith, later) in
    let here : first + (y - first) ≡ y = omega (arith, later) in
    rw (next, here, ← so_far) is
