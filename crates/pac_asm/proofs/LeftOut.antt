-- Lines that are skipped do nothing, and leave nothing in a program.
use Rattle.pac_asm.proofs.Common.{IsPassedOver, List, Ok, SkippedLinesDoNothing, Standing, after_text, conditional_of_line, false}
use Rattle.pac_asm.proofs.Common.{is_judged, refl, rules, ℕ, ◌≡◌, AllFit, AsmCode, AsmFault, Assembled, IsLeftOutIfSkipped, Line}
use Rattle.pac_asm.proofs.Common.{LineLayout, Result, Skipped, SkippedLinesAreLeftOut, Some, Symbol, [], after_texts, ap, append-nil}
use Rattle.pac_asm.proofs.Common.{append_assoc, arith, common_steps, first_standing, length, length-append, line_at_place, phase1, phase2}
use Rattle.pac_asm.proofs.Common.{program_of, same-Ok, same_Some, slice_get, slice_get-after, suc, sym, ◌++◌, ◌+◌, ◌>>=◌, ◌∙◌, ◌∷◌}
use Rattle.pac_asm.proofs.InTurn.{gone, if-ok, in-line-ok, first-line, text, laid}
use Rattle.pac_asm_program.specs.declared.line.Line.TheVariants as entries

-- ---- they do nothing

pub passed-over : (above after : Standing) (line : List ℕ) → is_judged above.conditions (conditional_of_line line) ≡ false →
    after_text above line ≡ Ok after → IsPassedOver above after
unfolding after_text
passed-over above after line skipped is = search rules

pub skipped-lines-do-nothing : SkippedLinesDoNothing
skipped-lines-do-nothing = record { defines = passed-over; shown = λ symbols line. refl; places = refl }

-- ---- the first phase

-- lines one after another, as the first phase takes them
all-texts : (number : ℕ) (old new : Standing) (lines : List (List ℕ)) → phase1 number old lines ≡ Ok new → after_texts old lines ≡ Ok new
unfolding phase1 after_texts
all-texts number old new [] e = let same : old ≡ new = cc in ap (λ (s : Standing). Ok s) same
all-texts number old new (line ∷ below) e =
    let (after, taken, others) = first-line number old line below new e in cc (taken, all-texts (number + 1) after new below others)

-- what stands above a line, after it and at the end, and the places of all lines, the line's own among them
record Reached (old new : Standing) (texts : List (List ℕ)) (line : List ℕ) (below : List (List ℕ)) : Type 0 where
  above : Standing
  reached : after_texts old texts ≡ Ok above
  after : Standing
  taken : after_text above line ≡ Ok after
  before : List LineLayout
  place : LineLayout
  more : List LineLayout
  places : new.places ≡ old.places ++ (before ++ place ∷ more)
  fit : AllFit texts before
  others : after_texts after below ≡ Ok new
  skipped : is_judged above.conditions (conditional_of_line line) ≡ false → place ≡ Skipped

own-place : (above after : Standing) (line : List ℕ) (place : LineLayout) → after.places ≡ above.places ++ place ∷ []
    → after_text above line ≡ Ok after → is_judged above.conditions (conditional_of_line line) ≡ false → place ≡ Skipped
own-place above after line place added is skipped =
    same_Some place Skipped
    (sym (slice_get-after above.places place []) ∙ ap (λ (places : List LineLayout). slice_get places (length above.places))
    (sym added ∙ (passed-over above after line skipped is).places) ∙ slice_get-after above.places Skipped [])

reach : (number : ℕ) (old new : Standing) (texts below : List (List ℕ)) (line : List ℕ)
    → phase1 number old (texts ++ line ∷ below) ≡ Ok new → Reached old new texts line below
unfolding phase1 after_texts
reach number old new [] below line e = let (after, taken, others) = first-line _ _ _ _ _ e in
    let one = text old line after taken in
    let rest = laid (number + 1) after below new others in
    record {
      above = old;
      reached = refl;
      after = after;
      taken = taken;
      before = [];
      place = one.place;
      more = rest.places;
      places = grind (arith, common_steps);
      fit = tt;
      others = all-texts (number + 1) after new below others;
      skipped = own-place old after line one.place one.added taken;
    }
reach number old new (first ∷ texts) below line e = let (next, taken, others) = first-line _ _ _ _ _ e in
    let one = text old first next taken in
    let rest = reach (number + 1) next new texts below line others in
    record {
      above = rest.above;
      reached = ap (λ (r : Result Standing AsmCode). r >>= λ after. after_texts after texts) taken ∙ rest.reached;
      after = rest.after;
      taken = rest.taken;
      before = one.place ∷ rest.before;
      place = rest.place;
      more = rest.more;
      places = grind (arith, common_steps);
      fit = (one.fit, rest.fit);
      others = rest.others;
      skipped = rest.skipped;
    }

-- ---- the second phase

-- lines are only added
grows : (symbols : List Symbol) (number : ℕ) (filled : List Line) (texts : List (List ℕ)) (places : List LineLayout) (out : List Line)
    → phase2 symbols number filled texts places ≡ Ok out → (more : List Line) × (out ≡ filled ++ more)
unfolding phase2
grows symbols number filled (top ∷ texts) (place ∷ places) out e =
    let (here, is, others) = in-line-ok number (line_at_place symbols top place) _ out e in
    let (more, grown) = grows symbols (number + 1) (filled ++ here ∷ []) texts places out others in
    (here ∷ more, grown ∙ append_assoc filled (here ∷ []) more)
grows symbols number filled texts places out e = ([], sym (same-Ok filled out e) ∙ sym (append-nil filled))

-- the entry of a line with a skipped place
entry : (symbols : List Symbol) (number : ℕ) (filled : List Line) (texts below : List (List ℕ)) (line : List ℕ)
    (before more : List LineLayout)
    (out : List Line) → AllFit texts before → phase2 symbols number filled (texts ++ line ∷ below) (before ++ Skipped ∷ more) ≡ Ok out
    → slice_get out (length filled + length texts) ≡ Some entries.Skipped
unfolding phase2
entry symbols number filled [] below line [] more out fit e = let (rest, grown) = grows _ _ _ _ more _ e in
    let at : length filled + 0 ≡ length filled = omega arith in
    cc (at, grown, append_assoc filled (entries.Skipped ∷ []) rest, slice_get-after filled entries.Skipped rest)
entry symbols number filled (top ∷ texts) below line (place ∷ before) more out fit e =
    let (here, is, others) = in-line-ok number (line_at_place symbols top place) _ out e in
    let at : length filled + suc (length texts) ≡ length (filled ++ here ∷ []) + length texts =
    omega (arith, length-append filled (here ∷ [])) in
    ap (slice_get out) at ∙ entry symbols (number + 1) (filled ++ here ∷ []) texts below line before more out fit.1 others
entry symbols number filled texts below line before more out fit e = absurd fit

-- ---- the program

-- a program of these lines and symbols
record Has (program : Assembled) (filled : List Line) (found : List Symbol) : Type 0 where
  lines : filled ≡ program.lines
  symbols : program.symbols ≡ found

has : (made program : Assembled) → ◌≡◌ {A = Result Assembled AsmFault} (Ok made) (Ok program) → Has program made.lines made.symbols
has made program e = search rules

left-out : (texts below : List (List ℕ)) (line : List ℕ) (program : Assembled) (new : Standing) (filled : List Line)
    → phase1 1 first_standing (texts ++ line ∷ below) ≡ Ok new → phase2 new.symbols 1 [] (texts ++ line ∷ below) new.places ≡ Ok filled
    → Has program filled new.symbols → IsLeftOutIfSkipped program texts line below
left-out texts below line program new filled first second made =
    let r : Reached first_standing new texts line below = reach 1 first_standing new texts below line first in
    record {
      above = r.above;
      reached = r.reached;
      after = r.after;
      taken = r.taken;
      end = new;
      ended = r.others;
      symbols = made.symbols;
      passed = λ skipped. passed-over r.above r.after line skipped r.taken;
      shown = λ skipped.
          let places : new.places ≡ r.before ++ Skipped ∷ r.more =
          r.places ∙ ap (λ (place : LineLayout). r.before ++ place ∷ r.more) (r.skipped skipped) in
          let at : length texts ≡ length {A = Line} [] + length texts = omega arith in
          ap (λ (lines : List Line). slice_get lines (length texts)) (sym made.lines) ∙ ap (slice_get filled) at
          ∙ entry _ _ _ _ _ _ _ _ _ r.fit (ap (phase2 new.symbols 1 [] (texts ++ line ∷ below)) (sym places) ∙ second);
    }

pub skipped-lines-are-left-out : SkippedLinesAreLeftOut
unfolding program_of
skipped-lines-are-left-out source program e texts below line parts = grind (arith, gone, has, if-ok, left-out)
