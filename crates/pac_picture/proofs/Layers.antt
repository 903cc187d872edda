-- The layer, row by row.
use Rattle.pac_picture.proofs.Common.{IsDrawn, IsLayer, LayerState, List, Shadow, Strip, VideoMemory, VideoRoms, add-one, ap, arith}
use Rattle.pac_picture.proofs.Common.{cells_of, differing_in, drawn_from, get_or-map, get_or-set_other, get_or-set_same, get_or-tabulate}
use Rattle.pac_picture.proofs.Common.{get_or_default, kept_dot, length, length-map, length-tabulate, made_stale, map, no_shadow, refl}
use Rattle.pac_picture.proofs.Common.{row_dot, same_lists, set, set-one-more, shadow_at, stale_row, stale_rows, suc, sum, sum_by_push, sym}
use Rattle.pac_picture.proofs.Common.{tabulate, tabulate-is, tabulate-same, tile_dot, true, ℕ, ◌%◌, ◌+◌, ◌/◌, ◌<◌, ◌∙◌, ◌≡◌, ◌≤◌}

-- one row more that is stale
pub made-step : (old now : List Shadow) (index : ℕ) → index < length now →
    ((k : ℕ) → k < index → shadow_at now k ≡ made_stale (shadow_at old k)) →
    ((k : ℕ) → index ≤ k → shadow_at now k ≡ shadow_at old k) →
    (k : ℕ) → k < index + 1 → shadow_at (set now index (made_stale (shadow_at now index))) k ≡ made_stale (shadow_at old k)
made-step old now index inside made rest =
    set-one-more now (λ k. made_stale (shadow_at old k)) index (made_stale (shadow_at now index)) no_shadow inside
    (ap made_stale (rest index (omega arith))) made

pub made-rest : (old now : List Shadow) (index : ℕ) (next : Shadow) →
    ((k : ℕ) → index ≤ k → shadow_at now k ≡ shadow_at old k) →
    (k : ℕ) → index + 1 ≤ k → shadow_at (set now index next) k ≡ shadow_at old k
made-rest old now index next rest k past =
    rw (get_or-set_other now index k next no_shadow (omega (arith, past))) (rest k (omega (arith, past)))

-- all rows
pub made-end : (old now : List Shadow) → length now ≡ length old →
    ((k : ℕ) → k < length now → shadow_at now k ≡ made_stale (shadow_at old k)) → now ≡ map made_stale old
made-end old now long made =
    same_lists now (map made_stale old) (long ∙ sym (length-map old made_stale))
    (λ k d inside. grind (arith, get_or_default, made, get_or-map))

-- shadows of rows that were never drawn
pub stale-at : (row : ℕ) → row < 28 → shadow_at stale_rows row ≡ stale_row
unfolding stale_rows
stale-at row below = get_or-tabulate 28 (λ _. stale_row) row no_shadow below

pub length-stale : length stale_rows ≡ 28
unfolding stale_rows
length-stale = length-tabulate 28 (λ _. stale_row)

pub new-layer : (roms : VideoRoms) (shadows : List Shadow) (kept : Strip (List (List (List ℕ)))) → shadows ≡ stale_rows →
    IsLayer roms shadows 28 kept
new-layer roms shadows kept is = record { shadows_high = rw is length-stale; drawn = λ below. absurd (omega (arith, below)) }

-- a line of the layer
pub line-kept : (roms : VideoRoms) (shadow : Shadow) (strip : List (List (List ℕ))) (y : ℕ) → IsDrawn roms shadow strip →
    shadow.is_drawn ≡ true → tabulate 288 (λ x. row_dot strip x (y % 8)) ≡ tabulate 288 (λ x. kept_dot roms shadow x y)
unfolding kept_dot
line-kept roms shadow strip y drawn fresh =
    tabulate-same 288 _ _ (λ x across.
    let same : (y % 8) % 8 ≡ y % 8 = omega arith in rw same at (drawn fresh x (y % 8) across (omega arith)))

-- of a row that was drawn from memory
pub dot-drawn : (roms : VideoRoms) (memory : VideoMemory) (x y : ℕ) → x < 288 →
    kept_dot roms (drawn_from memory (y / 8)) x y ≡ tile_dot roms memory x y
unfolding kept_dot tile_dot cells_of
dot-drawn roms memory x y across = grind (arith, get_or-tabulate)

-- one row more that is drawn
pub row-step : (memory : VideoMemory) (now : List Shadow) (row : ℕ) → row < length now →
    ((k : ℕ) → k < row → shadow_at now k ≡ drawn_from memory k) →
    (k : ℕ) → k < row + 1 → shadow_at (set now row (drawn_from memory row)) k ≡ drawn_from memory k
row-step memory now row inside done = set-one-more now (drawn_from memory) row (drawn_from memory row) no_shadow inside refl done

pub sum-more : (value : ℕ → ℕ) (count : ℕ) → sum (tabulate (suc count) value) ≡ sum (tabulate count value) + value count
unfolding tabulate
sum-more value count = sum_by_push (λ x. x) (tabulate count value) (value count)

pub sum-none : (value : ℕ → ℕ) → 0 ≡ sum (tabulate 0 value)
unfolding tabulate
sum-none value = refl

pub sum-step : (old now : List Shadow) (memory : VideoMemory) (row so_far one : ℕ) →
    so_far ≡ sum (tabulate row (differing_in old memory)) → one ≡ differing_in now memory row → shadow_at now row ≡ shadow_at old row →
    so_far + one ≡ sum (tabulate (row + 1) (differing_in old memory))
sum-step old now memory row so_far one is more same =
    rw (add-one, sum-more (differing_in old memory) row, is, rw same at more)

pub drawn-all : (memory : VideoMemory) (shadows : List Shadow) → length shadows ≡ 28 →
    ((k : ℕ) → k < 28 → shadow_at shadows k ≡ drawn_from memory k) → shadows ≡ tabulate 28 (drawn_from memory)
drawn-all memory shadows high done = tabulate-is shadows 28 (drawn_from memory) no_shadow high done

pub all-at : (memory : VideoMemory) (shadows : List Shadow) (row : ℕ) → shadows ≡ tabulate 28 (drawn_from memory) → row < 28 →
    shadow_at shadows row ≡ drawn_from memory row
all-at memory shadows row is below = rw is (get_or-tabulate 28 (drawn_from memory) row no_shadow below)

pub shadow-set : (shadows : List Shadow) (row : ℕ) (next : Shadow) → length shadows ≡ 28 → row < 28 → shadow_at
    (set shadows row next) row ≡ next
shadow-set shadows row next high below = get_or-set_same shadows row next no_shadow (omega (arith, high, below))

pub layer-is : (layer : LayerState) (roms : VideoRoms) (shadows : List Shadow) → layer.roms ≡ roms → layer.shadows ≡ shadows →
    layer ≡ record { roms = roms; shadows = shadows }
layer-is layer roms shadows one two = rw (← one, ← two) refl
