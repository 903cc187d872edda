-- The outermost IF that is open after the last line is the first that is never closed.
use Rattle.pac_asm.proofs.Common.{Bool, Conditional, Else, EndIf, If, List, None, Option, Pairing, Some, [], ap, arith, cond, cond-false}
use Rattle.pac_asm.proofs.Common.{cond-true, conditional_of_line, false, first_unclosed, is_never_closed, length, lines, map, ne_eqb}
use Rattle.pac_asm.proofs.Common.{option_map, pairing_after_word, refl, rules, stays_open, suc, sym, zero, ℕ, ◌+◌, ◌∙◌, ◌∷◌, ◌≡◌, ◌≤◌}

-- the first that is never closed below so many lines
abbrev pub shifted : ℕ → Option ℕ → Option ℕ
shifted above answer = option_map (λ more. above + more) answer

-- the first that is never closed where IFs are open already, the outermost of which stands below so many lines
abbrev pub found : ℕ → ℕ → ℕ → List (List ℕ) → Option ℕ
found zero outermost above below = shifted above (first_unclosed below)
found (suc inner) outermost above below =
    cond (stays_open inner (map conditional_of_line below)) (Some outermost) (shifted above (first_unclosed below))

pub shifted-more : (above : ℕ) (x : Option ℕ) → shifted above (option_map (λ n. n + 1) x) ≡ shifted (above + 1) x
shifted-more above x = search rules

pub shifted-none : (x : Option ℕ) → shifted 0 x ≡ x
shifted-none x = search rules

-- an IF that is closed has closed ones inside it
closed-inside : (m n : ℕ) (words : List (Option Conditional)) → m ≤ n → stays_open n words ≡ false → stays_open m words ≡ false
closed-inside m n [] h e = absurd (cc)
closed-inside m n (Some If ∷ words) h e = closed-inside (suc m) (suc n) words (omega arith) e
closed-inside zero n (Some EndIf ∷ words) h e = refl
closed-inside (suc m) zero (Some EndIf ∷ words) h e = absurd (omega arith)
closed-inside (suc m) (suc n) (Some EndIf ∷ words) h e = closed-inside m n words (omega arith) e
closed-inside m n (Some Else ∷ words) h e = closed-inside m n words h e
closed-inside m n (None ∷ words) h e = closed-inside m n words h e

-- what is found before a line that begins with a word
abbrev before : ℕ → ℕ → ℕ → Option Conditional → List (List ℕ) → Option ℕ
before zero outermost above word below =
    shifted above (cond (is_never_closed word below) (Some 0) (option_map (λ n. n + 1) (first_unclosed below)))
before (suc inner) outermost above word below =
    cond (stays_open inner (word ∷ map conditional_of_line below)) (Some outermost)
    (shifted above (cond (is_never_closed word below) (Some 0) (option_map (λ n. n + 1) (first_unclosed below))))

before-is : (depth outermost above : ℕ) (line : List ℕ) (below : List (List ℕ))
    → before depth outermost above (conditional_of_line line) below ≡ found depth outermost above (line ∷ below)
before-is depth outermost above line below = search rules

-- an IF, with none open and with some
first-if : (above : ℕ) (below : List (List ℕ)) (is_open : Bool) → stays_open 0 (map conditional_of_line below) ≡ is_open
    → found 1 above (above + 1) below ≡ shifted above (cond is_open (Some 0) (option_map (λ n. n + 1) (first_unclosed below)))
first-if above below is_open e = search rules

-- a line that opens and closes nothing
other : (depth outermost above : ℕ) (below : List (List ℕ))
    → found depth outermost (above + 1) below ≡ before depth outermost above None below
other depth outermost above below = search rules

-- what is found after a line
abbrev found-after : Pairing → List (List ℕ) → Option ℕ
found-after p below = found p.depth p.outermost p.above below

step : (depth outermost above : ℕ) (word : Option Conditional) (below : List (List ℕ))
    → found-after (pairing_after_word (record { above = above; depth = depth; outermost = outermost }) word) below
    ≡ before depth outermost above word below
step depth outermost above word below = grind (arith, cond-false, first-if, ne_eqb, other, closed-inside, cond-true, shifted-more)

-- what is known after some lines of a source
pub record Kept (source rest : List ℕ) (p : Pairing) : Type 0 where
  pub counted : p.above + length (lines rest) ≡ length (lines source)
  pub within : p.depth ≤ p.above
  pub same : found p.depth p.outermost p.above (lines rest) ≡ first_unclosed (lines source)

above-after : (p : Pairing) (word : Option Conditional) → (pairing_after_word p word).above ≡ p.above + 1
above-after p word = search rules

pub kept : (source rest line below : List ℕ) (p q : Pairing) (word : Option Conditional) → q ≡ pairing_after_word p word
    → word ≡ conditional_of_line line → lines rest ≡ line ∷ lines below → Kept source rest p → Kept source below q
kept source rest line below p q word is w e was = let above : q.above ≡ p.above + 1 = ap (λ (r : Pairing). r.above) is ∙ above-after _ _ in
    let depth : q.depth ≡ (pairing_after_word p word).depth = ap (λ (r : Pairing). r.depth) is in
    let same_is =
    ap (λ (r : Pairing). found-after r (lines below)) (is ∙ ap (pairing_after_word p) w)
    ∙ step p.depth p.outermost p.above (conditional_of_line line) (lines below)
    ∙ before-is p.depth p.outermost p.above line (lines below)
    ∙ ap (found p.depth p.outermost p.above) (sym e)
    ∙ was.same in
    grind (arith, before-is, step)

pub begins : (source : List ℕ) → Kept source source (record { above = 0; depth = 0; outermost = 0 })
begins source = record { counted = omega arith; within = omega arith; same = shifted-none (first_unclosed (lines source)) }
