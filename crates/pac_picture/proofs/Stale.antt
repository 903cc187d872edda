-- Where all cells count as differing, all are counted.
use Rattle.pac_picture.proofs.Common.{AreStale, Bool, IsLayer, List, Shadow, StaleCellsAreDrawn, Strip, VideoMemory, VideoRoms}
use Rattle.pac_picture.proofs.Common.{all_differing, arith, cell_differs, cell_row_of, cells_of, count_by, differing_cells, differing_in}
use Rattle.pac_picture.proofs.Common.{drawn_from, false, get_or-map, get_or-set_other, length, length-map, made_stale, map, no_shadow, refl}
use Rattle.pac_picture.proofs.Common.{shadow_at, stale_rows, suc, sym, tabulate, true, true≢false, zero, ℕ, ◌*◌, ◌<◌, ◌∙◌, ◌≡◌}
use Rattle.std.proofs.Common.{sum}
use Rattle.pac_picture.proofs.Counts.{count-more, count-none}
use Rattle.pac_picture.proofs.Layers.{sum-more, sum-none, stale-at, length-stale}

count-always : (test : ℕ → Bool) (count : ℕ) → ((k : ℕ) → test k ≡ true) → count_by test (tabulate count (λ k. k)) ≡ count
count-always test zero always = sym (count-none test)
count-always test (suc count) always = grind (arith, count-more, always, count-always test count)

-- the 36 cells of a row
pub row-counts : (shadow : Shadow) (tiles colours : List ℕ) → shadow.is_drawn ≡ false → differing_cells shadow tiles colours ≡ 36
unfolding differing_cells
row-counts shadow tiles colours is = count-always (cell_differs shadow tiles colours) 36 (λ k. rw is refl)

sum-always : (value : ℕ → ℕ) (each count : ℕ) → ((k : ℕ) → k < count → value k ≡ each) → sum (tabulate count value) ≡ each * count
sum-always value each zero always = sym (sum-none value) ∙ omega arith
sum-always value each (suc count) always = grind (arith, sum-more, always, sum-always value each count)

-- the 1,008 cells of all rows
all-count : (shadows : List Shadow) (memory : VideoMemory) → AreStale shadows → all_differing shadows memory ≡ 1008
unfolding all_differing
all-count shadows memory are =
    sum-always (differing_in shadows memory) 36 28
    (λ row below. row-counts (shadow_at shadows row) (cells_of memory.tile_ram row) (cells_of memory.colour_ram row) (are.each row below))

pub stale-cells-are-drawn : StaleCellsAreDrawn
stale-cells-are-drawn memory state = record {
  whole = λ are. all-count state.shadows memory are;
  line = λ y is.
      let row = cell_row_of memory y in
      row-counts (shadow_at state.shadows row) (cells_of memory.tile_ram row) (cells_of memory.colour_ram row) is;
  others = λ y row apart.
      get_or-set_other state.shadows (cell_row_of memory y) row (drawn_from memory (cell_row_of memory y)) no_shadow apart;
}

-- ---- where they do

pub new-stale : (shadows : List Shadow) → shadows ≡ stale_rows → AreStale shadows
new-stale shadows is = record { high = rw is length-stale; each = λ row below. rw (is, stale-at row below) }

pub made-are-stale : (old new : List Shadow) → new ≡ map made_stale old → length old ≡ 28 → AreStale new
made-are-stale old new is high = record {
  high = rw (is, length-map) high;
  each = λ row below. rw (is, get_or-map made_stale old row no_shadow no_shadow (omega (arith, below, high)));
}

-- a layer of which every cell counts as differing, whatever its ROMs are
pub undrawn-layer : (roms : VideoRoms) (shadows : List Shadow) (row : ℕ) (kept : Strip (List (List (List ℕ)))) → AreStale shadows →
    IsLayer roms shadows row kept
undrawn-layer roms shadows row kept are = record {
  shadows_high = are.high;
  drawn = λ below fresh. absurd (true≢false (sym fresh ∙ are.each row below));
}
