-- The symbols of the first phase are the one right assignment.
use Rattle.pac_asm.proofs.Common.{List, Ok, Option, Some, Standing, Symbol, SymbolsAreRight, [], ap, append_assoc, arith, common_steps}
use Rattle.pac_asm.proofs.Common.{defined_after, defined_in, first_spot, first_standing, number_of_symbol, option_map, phase1, refl, rules}
use Rattle.pac_asm.proofs.Common.{same-Ok, same_Some, subst, sym, ℕ, ℤ, ◌++◌, ◌+◌, ◌∙◌, ◌∷◌, ◌≡◌, Line, LineLayout, entries_in}
use Rattle.pac_asm.proofs.Common.{line_at_place, phase2, AreDefinedAbove, AsmCode, AtMostOneIsRight, Bool, Form, LineStands, LineStep}
use Rattle.pac_asm.proofs.Common.{ReadStands, RestStands, Result, Spot, conditional_of_line, is_read, none-some}
use Rattle.pac_asm.proofs.Common.{step_if, step_of, step_read}
use Rattle.std.proofs.lemmas.List.{append-nil}
use Rattle.pac_asm.proofs.Agreed.{AreNested, none-nested, Extends, found-first, same-value, spot_of, agree-text, line_by}
use Rattle.pac_asm.proofs.InTurn.{first-line, in-line-ok}

-- ---- lines

pub no-line : (number : ℕ) (above end : Standing) → phase1 number above [] ≡ Ok end → above ≡ end
unfolding phase1
no-line number above end e = same-Ok above end e

pub grows : (number : ℕ) (above : Standing) → AreNested above.conditions → (lines : List (List ℕ)) (end : Standing)
    → phase1 number above lines ≡ Ok end → (more : List Symbol) × (end.symbols ≡ above.symbols ++ more)
grows number above nest [] end e = ([], cc (no-line number above end e, append-nil above.symbols))
grows number above nest (line ∷ below) end e = let (next, after, others) = first-line _ _ _ below end e in
    let a = agree-text (number_of_symbol above.symbols) above (λ some z h. h) nest line next after in
    let (more, is) = grows (number + 1) next a.nested below end others in
    (a.new ++ more, is ∙ ap (λ xs. xs ++ more) a.grown ∙ append_assoc above.symbols a.new more)

-- ---- the symbols are right

pub extends-above : (number : ℕ) (above : Standing) → AreNested above.conditions → (lines : List (List ℕ)) (end : Standing)
    → phase1 number above lines ≡ Ok end → (names : List ℕ → Option ℤ) → Extends end.symbols names → Extends above.symbols names
extends-above number above nest lines end e names extends some z is = let (more, grown) = grows _ _ nest _ _ e in
    extends some z (subst (λ symbols. number_of_symbol symbols some ≡ Some z) (sym grown) (found-first above.symbols more some z is))

defines : (names : List ℕ → Option ℤ) (number : ℕ) (above : Standing) → AreNested above.conditions → (lines : List (List ℕ))
    (end : Standing) → phase1 number above lines ≡ Ok end → Extends end.symbols names
    → (more : List Symbol) × (defined_in names (spot_of above) lines ≡ Some more) × (end.symbols ≡ above.symbols ++ more)
unfolding defined_in
defines names number above nest [] end e extends = grind (arith, append-nil, no-line)
defines names number above nest (line ∷ below) end e extends = let (next, after, others) = first-line _ _ _ _ _ e in
    let a = agree-text names above (extends-above number above nest (line ∷ below) end e names extends) nest line next after in
    let d = defines names (number + 1) next a.nested below end others extends in grind (arith, common_steps)

-- ---- and no other assignment is

pub mapped : (new rest : List Symbol) (o : Option (List Symbol)) → option_map (λ more. new ++ more) o ≡ Some rest
    → (more : List Symbol) × (o ≡ Some more) × (new ++ more ≡ rest)
mapped new rest o e = search rules

agree-all : (names : List ℕ → Option ℤ) (number : ℕ) (above : Standing) → AreNested above.conditions → (lines : List (List ℕ))
    (end : Standing) (rest : List Symbol) → phase1 number above lines ≡ Ok end → defined_in names (spot_of above) lines ≡ Some rest
    → ((some : List ℕ) → names some ≡ number_of_symbol (above.symbols ++ rest) some) → (some : List ℕ)
    → names some ≡ number_of_symbol end.symbols some
unfolding defined_in
agree-all names number above nest [] end rest e d assigned some = grind (arith, append-nil, no-line, same_Some)
agree-all names number above nest (line ∷ below) end rest e d assigned some = let (next, after, others) = first-line _ _ _ _ _ e in
    let a = agree-text names above (λ n z h. assigned n ∙ found-first above.symbols rest n z h) nest line next after in
    let (more, defined, parts) = mapped _ _ _ (sym (ap (λ step. defined_after step (λ next. defined_in names next below)) a.stepped) ∙ d) in
    let same : above.symbols ++ rest ≡ next.symbols ++ more = cc (parts, append_assoc above.symbols a.new more, a.grown) in
    agree-all names (number + 1) next a.nested below end more others defined
    (λ n. assigned n ∙ ap (λ symbols. number_of_symbol symbols n) same) some

-- the first line stands at address 0, and no IF is open
pub start-spot : first_spot ≡ spot_of first_standing
start-spot = refl

pub symbols-are-right : SymbolsAreRight
symbols-are-right lines after e = let d = defines _ _ _ none-nested _ _ e (λ some z h. h) in
    record {
      right = grind (arith, start-spot);
      only = grind (arith, agree-all, none-nested, start-spot);
    }

-- ---- the second phase gives each line the entry that it has under the symbols

line-is : (symbols : List Symbol) (line : List ℕ) (place : LineLayout) →
    line_at_place symbols line place ≡ line_by (number_of_symbol symbols) line place
line-is symbols line place = search rules

-- the entries of some lines, which the second phase puts behind those of the lines above
record Entered (symbols : List Symbol) (above : Standing) (lines : List (List ℕ)) (end : Standing) : Type 0 where
  places : List LineLayout
  are : end.places ≡ above.places ++ places
  filled : (number : ℕ) (before out : List Line) → phase2 symbols number before lines places ≡ Ok out
      → (more : List Line) × (out ≡ before ++ more) × (entries_in (number_of_symbol symbols) (spot_of above) lines ≡ Some more)

entered : (symbols : List Symbol) (number : ℕ) (above : Standing) → AreNested above.conditions → (lines : List (List ℕ))
    (end : Standing) → phase1 number above lines ≡ Ok end → Extends end.symbols (number_of_symbol symbols) → Entered symbols above lines end
unfolding entries_in phase2
entered symbols number above nest [] end e extends = search (rules, arith, no-line, same-Ok)
entered symbols number above nest (line ∷ below) end e extends =
    let names = number_of_symbol symbols in
    let (next, after, others) = first-line number above line below end e in
    let a = agree-text names above (extends-above number above nest (line ∷ below) end e names extends) nest line next after in
    let rest = entered symbols (number + 1) next a.nested below end others extends in
    grind (arith, common_steps, in-line-ok, line-is, spot_of)

-- the lines that both phases leave are the entries of the source's lines under the symbols
pub has-entries : (lines : List (List ℕ)) (after : Standing) (out : List Line) → phase1 1 first_standing lines ≡ Ok after
    → phase2 after.symbols 1 [] lines after.places ≡ Ok out → entries_in (number_of_symbol after.symbols) first_spot lines ≡ Some out
has-entries lines after out e f = let all = entered _ _ _ none-nested _ _ e (λ some z h. h) in
    let made = all.filled 1 [] out (ap (phase2 after.symbols 1 [] lines) (sym all.are) ∙ f) in
    ap (λ spot. entries_in (number_of_symbol after.symbols) spot lines) start-spot ∙ made.2 ∙ ap Some (sym made.1)

-- ---- at most one assignment is right, where each name whose value is needed at once is defined above

same-read : (above : List Symbol) (a b : List ℕ → Option ℤ) → Extends above a → Extends above b → (spot : Spot)
    (answer : Result Form AsmCode) → ReadStands above answer → step_read a spot answer ≡ step_read b spot answer
same-read above a b ea eb spot answer h = grind (arith, same-value)

same-if : (above : List Symbol) (a b : List ℕ → Option ℤ) → Extends above a → Extends above b → (spot : Spot) (line : List ℕ) (c : Bool)
    → LineStands above line c → step_if a spot line c ≡ step_if b spot line c
same-if above a b ea eb spot line c h = grind (arith, same-read)

same-step : (above : List Symbol) (a b : List ℕ → Option ℤ) → Extends above a → Extends above b → (spot : Spot) (line : List ℕ)
    → LineStands above line (is_read spot.ifs (conditional_of_line line)) → step_of a spot line ≡ step_of b spot line
unfolding step_of
same-step above a b ea eb spot line h = same-if above a b ea eb spot line (is_read spot.ifs (conditional_of_line line)) h

-- right assignments that agree on what is defined above agree on what these lines define
abbrev AreSame : (a b : List ℕ → Option ℤ) → List (List ℕ) → Type 0
AreSame a b lines = (above : List Symbol) (spot : Spot) (some other : List Symbol) → AreDefinedAbove a above spot lines
    → defined_in a spot lines ≡ Some some → defined_in b spot lines ≡ Some other
    → ((name : List ℕ) → a name ≡ number_of_symbol (above ++ some) name) →
    ((name : List ℕ) → b name ≡ number_of_symbol (above ++ other) name)
    → some ≡ other

longer : (above new more all : List Symbol) → new ++ more ≡ all → above ++ all ≡ (above ++ new) ++ more
longer above new more all e = ap (λ xs. above ++ xs) (sym e) ∙ sym (append_assoc above new more)

same-after : (a b : List ℕ → Option ℤ) (above : List Symbol) (below : List (List ℕ)) → AreSame a b below → (step : Option LineStep)
    (some other : List Symbol) → RestStands step (λ step. AreDefinedAbove a (above ++ step.0) step.1 below)
    → defined_after step (λ next. defined_in a next below) ≡ Some some → defined_after step (λ next. defined_in b next below) ≡ Some other
    → ((name : List ℕ) → a name ≡ number_of_symbol (above ++ some) name)
    → ((name : List ℕ) → b name ≡ number_of_symbol (above ++ other) name) → some ≡ other
same-after a b above below again step some other h da db na nb = grind (arith, longer, mapped, none-some)

are-same : (a b : List ℕ → Option ℤ) (lines : List (List ℕ)) → AreSame a b lines
unfolding defined_in
are-same a b [] above spot some other h da db na nb = sym (same_Some [] some da) ∙ same_Some [] other db
are-same a b (line ∷ below) above spot some other h da db na nb =
    let same = same-step above a b (λ name z e. na name ∙ found-first above some name z e)
    (λ name z e. nb name ∙ found-first above other name z e) spot line h.0 in
    same-after _ _ _ _ (are-same a b below) _ _ _ h.1 da (ap (λ step. defined_after step (λ next. defined_in b next below)) same ∙ db) na nb

pub at-most-one-is-right : AtMostOneIsRight
at-most-one-is-right lines names other right also above name = grind (arith, are-same)
