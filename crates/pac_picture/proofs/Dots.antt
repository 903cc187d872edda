-- A line of the picture, dot by dot.
use Rattle.pac_picture.proofs.Common.{Bool, List, None, Some, Sprite, VideoRoms, and_parts, arith, box_place, cases_eq, false}
use Rattle.pac_picture.proofs.Common.{flipped_place, get_or, get_or-set_other, get_or-set_same, get_or-tabulate, if◌then◌else◌}
use Rattle.pac_picture.proofs.Common.{is_column_of, is_in_box, length, nat_lt, nat_tests, over_line, painted_number, refl, set, slice_index}
use Rattle.pac_picture.proofs.Common.{sprite_dot, sprite_number, tabulate, true, ℕ, ◌+◌, ◌<◌, ◌≡◌, ◌≤◌}

-- what a line of a sprite does in a column at which it shows, and in another
line-on : (line : List ℕ) (sprite : Sprite) (x below : ℕ) → is_column_of sprite x ≡ true →
    over_line line sprite x below ≡ painted_number (slice_index line (flipped_place sprite.flip_x (box_place sprite.left x))) below
unfolding over_line
line-on line sprite x below shows = rw shows refl

line-off : (line : List ℕ) (sprite : Sprite) (x below : ℕ) → is_column_of sprite x ≡ false → over_line line sprite x below ≡ below
unfolding over_line
line-off line sprite x below off = rw off refl

-- before the first column
pub line-begin : (line old : List ℕ) (sprite : Sprite) (start : ℕ) → ((x : ℕ) → x < start → is_column_of sprite x ≡ false) →
    (k : ℕ) → k < 288 →
    get_or old k 0 ≡ (if nat_lt k start then over_line line sprite k (get_or old k 0) else get_or old k 0)
line-begin line old sprite start off k inside = grind (arith, nat_tests, line-off, off)

-- one column more
pub line-step : (line old out : List ℕ) (sprite : Sprite) (x number next : ℕ) →
    is_column_of sprite x ≡ true → number ≡ slice_index line (flipped_place sprite.flip_x (box_place sprite.left x)) →
    next ≡ painted_number number (get_or out x 0) → length out ≡ 288 → x < 288 →
    ((k : ℕ) → k < 288 → get_or out k 0 ≡ (if nat_lt k x then over_line line sprite k (get_or old k 0) else get_or old k 0)) →
    (k : ℕ) → k < 288 →
    get_or (set out x next) k 0 ≡ (if nat_lt k (x + 1) then over_line line sprite k (get_or old k 0) else get_or old k 0)
line-step line old out sprite x number next shows is painted long inside so_far k below =
    grind (arith, nat_tests, cases_eq, get_or-set_same, get_or-set_other, line-on, so_far)

-- all columns
pub line-end : (line old out : List ℕ) (sprite : Sprite) (end : ℕ) → ((x : ℕ) → end ≤ x → is_column_of sprite x ≡ false) →
    ((k : ℕ) → k < 288 → get_or out k 0 ≡ (if nat_lt k end then over_line line sprite k (get_or old k 0) else get_or old k 0)) →
    (x : ℕ) → x < 288 → slice_index out x ≡ over_line line sprite x (slice_index old x)
line-end line old out sprite end off so_far x inside = grind (arith, nat_tests, line-off, off, so_far)

-- a sprite that doesn't cover a line leaves it
pub dot-off : (roms : VideoRoms) (sprite : Sprite) (x y below : ℕ) → is_in_box sprite.top y ≡ false →
    below ≡ painted_number (sprite_dot roms sprite x y) below
unfolding sprite_dot
dot-off roms sprite x y below off = grind arith

-- what a question about a line answers
pub answer-none : (within : Bool) (value : ℕ) → None ≡ (if within then Some value else None) → within ≡ false
answer-none within value is = grind arith

pub answer-some : (within : Bool) (value line : ℕ) → Some line ≡ (if within then Some value else None) → (within ≡ true) × (line ≡ value)
answer-some within value line is = grind arith

flipped-below : (flip : Bool) (place : ℕ) → place < 16 → flipped_place flip place < 16
flipped-below flip place below = grind arith

column-below : (sprite : Sprite) (x : ℕ) → is_column_of sprite x ≡ true → flipped_place sprite.flip_x (box_place sprite.left x) < 16
column-below sprite x shows = grind (arith, nat_tests, and_parts, flipped-below)

pub dot-on : (roms : VideoRoms) (sprite : Sprite) (numbers : List ℕ) (line x y below : ℕ) →
    numbers ≡ tabulate 16 (λ x. sprite_number roms sprite.colour sprite.code x line) → is_in_box sprite.top y ≡ true →
    line ≡ flipped_place sprite.flip_y (box_place sprite.top y) →
    over_line numbers sprite x below ≡ painted_number (sprite_dot roms sprite x y) below
unfolding sprite_dot
dot-on roms sprite numbers line x y below is within place =
    grind (arith, line-on, line-off, get_or-tabulate, column-below)
