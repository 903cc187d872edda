-- The cells that lines take.
use Rattle.pac_asm.proofs.Common.{List, ap, arith, cases_lt, drop, fill_by_all, get_or, get_or-append_right, get_or-drop}
use Rattle.pac_asm.proofs.Common.{get_or-map-range_with_len, get_or-take, get_or_append_left, length, length-append, length-drop}
use Rattle.pac_asm.proofs.Common.{length-map-range_with_len, length-take-le, map, range_with_len, take, ℕ, ◌++◌, ◌+◌, ◌<◌, ◌∙◌, ◌≡◌, ◌≤◌}
use Rattle.pac_asm.proofs.Common.{◌⊎◌, ArePlacesApart, Bool, IsFreePlace, LineLayout, Placed, Span, [], and_from, append-nil, append_assoc}
use Rattle.pac_asm.proofs.Common.{cells_below, false, get_or-replicate, inl, inr, is_taken, le-leb, length-replicate, list_any}
use Rattle.pac_asm.proofs.Common.{list_any-append, list_any-map, lt-ltb, or-false, or_right, overlaps, part-map-range, place_covers}
use Rattle.pac_asm.proofs.Common.{replicate, rules, span_covers, subst, sym, true, ⊎_elim, ◌||◌, ◌∷◌}

-- ---- a list that has a value for each number below a limit, with a part written over

module _ {X : Type 0} (f g : ℕ → X) (old block : List X) (at n : ℕ) (d : X) (was : old ≡ map f (range_with_len 0 n))
    (inside : at + length block ≤ n) (here : (k : ℕ) → k < length block → get_or block k d ≡ g (at + k))
    (elsewhere : (k : ℕ) → k < n → (k < at) ⊎ (at + length block ≤ k) → f k ≡ g k) where
  abbrev new : List X
  new = take at old ++ (block ++ drop (at + length block) old)

  size : length old ≡ n
  size = ap length was ∙ length-map-range_with_len f 0 n

  front : length (take at old) ≡ at
  front = length-take-le at old (omega (arith, size))

  length-new : length new ≡ n
  length-new =
      let whole = length-append (take at old) (block ++ drop (at + length block) old) in
      let rest = length-append block (drop (at + length block) old) in
      let last = length-drop (at + length block) old in
      omega (arith, whole, rest, last, front, size)

  kept : (k : ℕ) → k < n → get_or old k d ≡ f k
  kept k below = ap (λ (xs : List X). get_or xs k d) was ∙ get_or-map-range_with_len f 0 n k k d below (omega arith)

  before : (k : ℕ) → k < n → k < at → get_or new k d ≡ g k
  before k below h = grind (arith, front, get_or-take, get_or_append_left, kept)

  within : (k : ℕ) → at ≤ k → k < at + length block → get_or new k d ≡ g k
  within k h below = grind (arith, front, get_or-append_right, get_or_append_left)

  after : (k : ℕ) → k < n → at + length block ≤ k → get_or new k d ≡ g k
  after k below h = grind (arith, front, get_or-append_right, get_or-drop, kept)

  each : (k : ℕ) → k < n → get_or new k d ≡ g k
  each k below = grind (arith, after, before, cases_lt, within)

  pub written : new ≡ map g (range_with_len 0 n)
  written = fill_by_all g new n d length-new each

-- ---- the cells

-- no line takes no cell
pub none : (n : ℕ) → replicate n false ≡ cells_below n []
unfolding cells_below
none n = fill_by_all (is_taken []) (replicate n false) n false (length-replicate n false)
    (λ k below. get_or-replicate n k false false below)

pub length-cells : (n : ℕ) (places : List LineLayout) → length (cells_below n places) ≡ n
unfolding cells_below
length-cells n places = length-map-range_with_len (is_taken places) 0 n

-- whether a part of the cells has one that is taken
pub part_taken : (places : List LineLayout) (span : Span) (n : ℕ) → span.at + span.size ≤ n
    → list_any (λ taken. taken) (take span.size (drop span.at (cells_below n places))) ≡ overlaps places span
unfolding cells_below
part_taken places span n inside = grind (arith, list_any-map, part-map-range)

-- one line more
more : (places : List LineLayout) (place : LineLayout) (cell : ℕ) → is_taken (places ++ place ∷ []) cell ≡
    (is_taken places cell || place_covers cell place)
more places place cell = grind (arith, list_any-append, or-false)

covered : (span : Span) (k : ℕ) → k < span.size → span_covers span (span.at + k) ≡ true
covered span k h = and_from _ _ (le-leb span.at (span.at + k) (omega arith)) (lt-ltb (span.at + k) (span.at + span.size) (omega arith))

uncovered : (span : Span) (k : ℕ) → (k < span.at) ⊎ (span.at + span.size ≤ k) → span_covers span k ≡ false
uncovered span k apart = search rules

-- with the cells of a span taken
pub with_span : (places : List LineLayout) (span : Span) (n : ℕ) (old : List Bool) → old ≡ cells_below n places → span.at + span.size ≤ n
    → take span.at old ++ (replicate span.size true ++ drop (span.at + span.size) old) ≡ cells_below n (places ++ Placed span ∷ [])
unfolding cells_below
with_span places span n old was inside =
    let block : List Bool = replicate span.size true in
    let size : length block ≡ span.size = length-replicate span.size true in
    ap (λ (k : ℕ). take span.at old ++ (block ++ drop (span.at + k) old)) (sym size)
    ∙ written _ _ _ _ _ _ _ was (omega (arith, size)) (λ k below. let within : k < span.size = omega (arith, size) in
    get_or-replicate span.size k true false within
    ∙ sym (more places (Placed span) (span.at + k) ∙ or_right (is_taken places (span.at + k)) _ (covered span k within)))
    (λ k below where_is.
    let outside : (k < span.at) ⊎ (span.at + span.size ≤ k) = ⊎_elim (λ h. inl h) (λ h. inr (omega (arith, size))) where_is in
    sym (more places (Placed span) k ∙ ap (λ b. is_taken places k || b) (uncovered span k outside) ∙ or-false (is_taken places k)))

-- a line without bytes takes none
pub with_nothing : (places : List LineLayout) (place : LineLayout) (n : ℕ) (old : List Bool) → old ≡ cells_below n places
    → ((k : ℕ) → place_covers k place ≡ false) → old ≡ cells_below n (places ++ place ∷ [])
unfolding cells_below
with_nothing places place n old was nothing =
    let same = λ (k : ℕ). more places place k ∙ ap (λ b. is_taken places k || b) (nothing k) ∙ or-false (is_taken places k) in
    was ∙ λ i. map (λ k. sym (same k) i) (range_with_len 0 n)

-- ---- apart

pub apart-push : (before places : List LineLayout) (place : LineLayout) → ArePlacesApart before places
    → IsFreePlace (before ++ places) place → ArePlacesApart before (places ++ place ∷ [])
apart-push before [] place h free = (subst (λ (above : List LineLayout). IsFreePlace above place) (append-nil before) free, tt)
apart-push before (first ∷ places) place h free = (
  h.0,
  apart-push (before ++ first ∷ []) places place h.1
      (subst (λ (above : List LineLayout). IsFreePlace above place) (sym (append_assoc before (first ∷ []) places)) free),
)
