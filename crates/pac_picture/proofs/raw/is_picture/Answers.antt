-- All numbers of a picture, one line after another, are those of its lines.
use Rattle.pac_picture.proofs.Common.{IsPicture, List, [], arith, common_steps, flat_map, get_or, get_or-append-add, get_or-append_right}
use Rattle.pac_picture.proofs.Common.{get_or_append_left, get_or_past, length, length-append, lt-ltb, ltb-true, subst, suc, sym, zero}
use Rattle.pac_picture.proofs.Common.{ℕ, ◌+◌, ◌-◌, ◌<◌, ◌∷◌}

abbrev flat : List (List ℕ) → List ℕ
flat lines = flat_map (λ line. line) lines

-- what holds of all numbers holds of each line's
of-lines : (lines : List (List ℕ)) → ((i : ℕ) → i < length (flat lines) → get_or (flat lines) i 0 < 16)
    → (x y : ℕ) → get_or (get_or lines y []) x 0 < 16
of-lines [] each x y = grind (arith, common_steps)
of-lines (line ∷ lines) each x zero =
    grind (arith, common_steps, each x, get_or_append_left line (flat lines) 0 x, get_or_past line x 0, length-append line (flat lines))
of-lines (line ∷ lines) each x (suc y) =
    of-lines lines (λ i inside. subst (λ number. number < 16) (get_or-append-add line (flat lines) i 0)
    (each (length line + i) (grind (arith, length-append line (flat lines), inside)))) x y

-- and the other way round
of-all : (lines : List (List ℕ)) → ((x y : ℕ) → get_or (get_or lines y []) x 0 < 16) → (i : ℕ) → get_or (flat lines) i 0 < 16
of-all [] below i = grind (arith, common_steps)
of-all (line ∷ lines) below i =
    let first : get_or line i 0 < 16 = below i zero in
    let later = of-all lines (λ x y. below x (suc y)) (i - length line) in
    grind (arith, first, later, get_or_append_left line (flat lines) 0 i, get_or-append_right line (flat lines) (length line) i 0)

pub returns : Rattle.pac_picture.proofs.raw.is_picture.Goals.returns
returns c =
    let lines = c.args.lines.now in
    let value = c.as_flattened.ensures.value in
    let below = c.bits.ensures.below in (
      (λ less. record {
        high = c.have_width.ensures.high;
        wide = c.have_width.ensures.wide;
        below = of-lines lines
            (subst (λ (all : List ℕ). (i : ℕ) → i < length all → get_or all i 0 < 16) value
            (below.0 (ltb-true c.bits.result 16 less)));
      }),
      (λ (is : IsPicture lines). lt-ltb c.bits.result 16
          (below.1 (λ i inside. subst (λ (all : List ℕ). get_or all i 0 < 16) (sym value) (of-all lines is.below i)))),
    )
