-- Lines of a picture that stay.
use Rattle.pac_picture.proofs.Common.{AreClean, AreSameOn, Bool, List, Shadow, Sprite, SpriteBytes, VideoMemory, VideoRoms, [], arith}
use Rattle.pac_picture.proofs.Common.{cases_eq, cell_differs, count_by, differing_cells, differing_in, dot, drawn_from, eqb-true, false}
use Rattle.pac_picture.proofs.Common.{get_or, get_or-map, get_or-set_other, get_or-set_same, if◌then◌else◌, is_in_box, kept_dot, length}
use Rattle.pac_picture.proofs.Common.{made_stale, map, no_shadow, picture_line, refl, seen_dot, seen_line, seen_sprite, set, set-get_or}
use Rattle.pac_picture.proofs.Common.{shadow_at, shadow_from, slice_index, source_of, sprite_at, sprite_dot, sprites_at, suc, sym, tabulate}
use Rattle.pac_picture.proofs.Common.{tabulate-same, true, true≢false, unflipped_line, zero, ℕ, ◌-◌, ◌/◌, ◌<◌, ◌||◌, ◌∙◌, ◌≡◌, ◌≢◌}
use mathlib.Core.Logic.{inl, inr}
use Rattle.pac_picture.proofs.Layers.{dot-drawn, shadow-set}
use Rattle.pac_picture.proofs.Counts.{count-more}

-- no line is marked
pub none-clean : (marks : List Bool) (flip : Bool) (sprites : List SpriteBytes) (roms : VideoRoms) (shadows : List Shadow)
    (lines : List (List ℕ)) → ((line : ℕ) → get_or marks line false ≡ false) → AreClean marks flip sprites roms shadows lines
none-clean marks flip sprites roms shadows lines none = record {
  each = λ y down is. absurd (true≢false (sym is ∙ none (unflipped_line flip y)));
}

-- ---- sprites that do the same to a line

neither : (one other : Bool) → (one || other) ≡ false → (one ≡ false) × (other ≡ false)
neither one other is = grind arith

dot-outside : (roms : VideoRoms) (sprite : Sprite) (x y : ℕ) → is_in_box sprite.top y ≡ false → ◌≡◌ {A = ℕ} (sprite_dot roms sprite x y) 0
unfolding sprite_dot
dot-outside roms sprite x y off = grind arith

dots-alike : (roms : VideoRoms) (one other : Sprite) (x y : ℕ) → AreSameOn y one other →
    sprite_dot roms one x y ≡ sprite_dot roms other x y
dots-alike roms one other x y alike = grind (arith, alike, dot-outside)

-- the sprites that bytes say are those of memory as far as line y goes
AreThere : SpriteBytes → VideoMemory → ℕ → Type 0
AreThere sprites memory y = (k : ℕ) → k < 8 → AreSameOn y (seen_sprite sprites k) (sprite_at memory k)

seen-is : (roms : VideoRoms) (memory : VideoMemory) (sprites : SpriteBytes) (x y : ℕ) → x < 288 → AreThere sprites memory y →
    seen_dot roms (drawn_from memory (y / 8)) sprites x y ≡ dot roms memory x y
unfolding seen_dot dot AreThere
seen-is roms memory sprites x y across there =
    let numbers = tabulate-same 8 _ _ (λ k below. dots-alike roms (seen_sprite sprites k) (sprite_at memory k) x y (there k below)) in
    rw (numbers, dot-drawn roms memory x y across) refl

either-seen : (roms : VideoRoms) (memory : VideoMemory) (sprites : SpriteBytes) (flip : Bool) (y x : ℕ) → x < 288 →
    AreThere sprites memory (unflipped_line flip y) →
    (if flip then seen_dot roms (drawn_from memory (unflipped_line flip y / 8)) sprites (287 - x) (223 - y)
    else seen_dot roms (drawn_from memory (unflipped_line flip y / 8)) sprites x y)
    ≡ (if flip then dot roms memory (287 - x) (223 - y) else dot roms memory x y)
either-seen roms memory sprites flip y x across there = grind (arith, seen-is)

seen-line : (roms : VideoRoms) (memory : VideoMemory) (sprites : SpriteBytes) (y : ℕ) → AreThere sprites memory (source_of memory y) →
    seen_line roms (drawn_from memory (source_of memory y / 8)) sprites memory.flip y ≡ picture_line roms memory y
unfolding picture_line seen_line
seen-line roms memory sprites y there = grind (arith, tabulate-same, either-seen)

-- a line that stays is there
pub line-stays : (roms : VideoRoms) (memory : VideoMemory) (marks : List Bool) (flip : Bool) (sprites : List SpriteBytes)
    (shadows : List Shadow) (lines : List (List ℕ)) (y source : ℕ) → AreClean marks flip sprites roms shadows lines → y < 224 →
    source ≡ source_of memory y → flip ≡ memory.flip →
    shadow_at shadows (source_of memory y / 8) ≡ drawn_from memory (source_of memory y / 8) →
    get_or marks source false ≡ true →
    ((k : ℕ) → k < 8 → AreSameOn source (seen_sprite (sprites_at sprites source) k) (sprite_at memory k)) →
    get_or lines y [] ≡ picture_line roms memory y
unfolding AreThere
line-stays roms memory marks flip sprites shadows lines y source clean down place same drawn marked there =
    (rw same at clean).each y down (rw place at marked)
    ∙ rw drawn (seen-line roms memory (sprites_at sprites (source_of memory y)) y (rw place at there))

-- a list in which the value is set that is there
pub set-there : {A : Type 0} (xs : List A) (at : ℕ) (x default : A) → get_or xs at default ≡ x → xs ≡ set xs at x
set-there xs at x default is = rw (← is, set-get_or)

-- another line has another source
sources-apart : (flip : Bool) (k y : ℕ) → k < 224 → y < 224 → k ≢ y → unflipped_line flip k ≢ unflipped_line flip y
sources-apart flip k y one other apart = grind arith

source-below : (flip : Bool) (y : ℕ) → y < 224 → unflipped_line flip y < 224
source-below flip y down = grind arith

-- a line that is composed with the sprites of memory is marked
pub line-marked : (roms : VideoRoms) (memory : VideoMemory) (marks : List Bool) (flip : Bool) (sprites : List SpriteBytes)
    (shadows : List Shadow) (lines : List (List ℕ)) (y source : ℕ) (line : List ℕ) (now : SpriteBytes) →
    AreClean marks flip sprites roms shadows lines → y < 224 → length marks ≡ 224 → length sprites ≡ 224 → length lines ≡ 224 →
    source ≡ source_of memory y → flip ≡ memory.flip →
    shadow_at shadows (source_of memory y / 8) ≡ drawn_from memory (source_of memory y / 8) →
    now ≡ record { attributes = memory.attributes; coordinates = memory.coordinates } →
    line ≡ picture_line roms memory y →
    AreClean (set marks source true) flip (set sprites source now) roms shadows (set lines y line)
unfolding AreThere
line-marked roms memory marks flip sprites shadows lines y source line now clean down long many high place same drawn taken is =
    rw (place, same, taken) (record {
      each = λ k below marked.
          let bytes : SpriteBytes = record { attributes = memory.attributes; coordinates = memory.coordinates } in
          let away = sources-apart memory.flip k y below down in
          let within = source-below memory.flip y down in
          let there = seen-line roms memory bytes y (λ n few within. refl) in
          let before = (rw same at clean).each k below in
          grind (arith, cases_eq k y, get_or-set_same, get_or-set_other, away);
    })

none-counted : (test : ℕ → Bool) (count k : ℕ) → count_by test (tabulate count (λ k. k)) ≡ 0 → k < count → test k ≡ false
none-counted test (suc count) k none below = grind (arith, count-more, cases_eq, none-counted test count)
none-counted test zero k none below = absurd (omega (arith, below))

AreSame : Shadow → Shadow → Type 0
AreSame one other = (k : ℕ) → k < 36 →
    (slice_index one.tiles k ≡ slice_index other.tiles k) × (slice_index one.colours k ≡ slice_index other.colours k)

cells-same : (shadow : Shadow) (tiles colours : List ℕ) → differing_cells shadow tiles colours ≡ 0 →
    AreSame shadow (shadow_from tiles colours)
unfolding differing_cells AreSame
cells-same shadow tiles colours none = λ k below.
    let here = none-counted (cell_differs shadow tiles colours) 36 k none below in grind (arith, eqb-true)

dots-same : (roms : VideoRoms) (one other : Shadow) (x y : ℕ) → AreSame one other → x < 288 →
    kept_dot roms one x y ≡ kept_dot roms other x y
unfolding kept_dot AreSame
dots-same roms one other x y same across = let here = same (x / 8) (omega (arith, across)) in rw (here.0, here.1) refl

line-same : (roms : VideoRoms) (one other : Shadow) (sprites : SpriteBytes) (flip : Bool) (y : ℕ) → AreSame one other →
    seen_line roms one sprites flip y ≡ seen_line roms other sprites flip y
unfolding seen_line seen_dot
line-same roms one other sprites flip y same = grind (arith, tabulate-same, dots-same)

-- the marks that are left once a row is drawn from memory
pub row-drawn : (roms : VideoRoms) (memory : VideoMemory) (marks left : List Bool) (flip now : Bool) (sprites : List SpriteBytes)
    (shadows : List Shadow) (lines : List (List ℕ)) (row cells : ℕ) → AreClean marks flip sprites roms shadows lines →
    length shadows ≡ 28 → row < 28 → cells ≡ differing_in shadows memory row → now ≡ flip →
    ((line : ℕ) → get_or left line false ≡ true → get_or marks line false ≡ true) →
    ((line : ℕ) → get_or left line false ≡ true → line / 8 ≡ row → cells ≡ 0) →
    AreClean left now sprites roms (set shadows row (drawn_from memory row)) lines
row-drawn roms memory marks left flip now sprites shadows lines row cells clean high below is still kept unchanged = rw still (record {
  each = λ y down marked.
      let source : ℕ = unflipped_line flip y in
      let before = clean.each y down (kept source marked) in
      elim (cases_eq (source / 8) row) [
        | inl here ↦
            let none : differing_in shadows memory row ≡ 0 = sym is ∙ unchanged source marked here in
            rw (here, shadow-set shadows row (drawn_from memory row) high below) ((rw here at before)
            ∙ line-same roms (shadow_at shadows row) (drawn_from memory row) (sprites_at sprites source) flip y (cells-same _ _ _ none))
        | inr apart ↦ rw (get_or-set_other shadows row (source / 8) (drawn_from memory row) no_shadow apart) before
      ];
})

-- the marks that are left once the picture's flip is looked at
pub flip-looked : (marks left : List Bool) (flip now : Bool) (sprites : List SpriteBytes) (roms : VideoRoms) (shadows : List Shadow)
    (lines : List (List ℕ)) → AreClean marks flip sprites roms shadows lines →
    ((line : ℕ) → get_or left line false ≡ true → (flip ≡ now) × (get_or marks line false ≡ true)) →
    AreClean left now sprites roms shadows lines
flip-looked marks left flip now sprites roms shadows lines clean kept = record {
  each = λ y down marked.
      let both = kept (unflipped_line now y) marked in
      (rw both.0 at clean).each y down both.1;
}

-- rows that are stale keep their lines
pub stale-clean : (marks : List Bool) (flip : Bool) (sprites : List SpriteBytes) (roms : VideoRoms) (shadows : List Shadow)
    (lines : List (List ℕ)) → AreClean marks flip sprites roms shadows lines → length shadows ≡ 28 →
    AreClean marks flip sprites roms (map made_stale shadows) lines
unfolding seen_line seen_dot kept_dot
stale-clean marks flip sprites roms shadows lines clean high = record {
  each = λ y down marked.
      let inside : unflipped_line flip y / 8 < length shadows = omega (arith, source-below flip y down, high) in
      rw (get_or-map made_stale shadows (unflipped_line flip y / 8) no_shadow no_shadow inside) (clean.each y down marked);
}
