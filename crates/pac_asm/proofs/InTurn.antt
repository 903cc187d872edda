-- A step that went well: what its parts gave, one after another.
use Rattle.pac_asm.proofs.Common.{AsmCode, AsmFault, Bool, Err, List, Ok, Result, Standing, after_text, if◌then◌else◌, phase1}
use Rattle.pac_asm.proofs.Common.{result_of_line, rules, true, ℕ, ◌+◌, ◌>>=◌, ◌∷◌, ◌≡◌, AllFit, FitsLine, Form, IsSized, LineLayout, Option}
use Rattle.pac_asm.proofs.Common.{[], after_item, after_judged, after_passed, arith, common_steps, conditional_of_line, first_standing}
use Rattle.pac_asm.proofs.Common.{form_of_line, is_judged, subst, sym, ◌++◌}

pub gone : {A B E : Type 0} (answer : Result A E) (go : A → Result B E) (next : B) → (answer >>= go) ≡ Ok next
    → (found : A) × (answer ≡ Ok found) × (go found ≡ Ok next)
gone answer go next e = search rules

pub if-ok : {A E : Type 0} (b : Bool) (answer : Result A E) (fault : E) (next : A) → (if b then answer else Err fault) ≡ Ok next
    → (b ≡ true) × (answer ≡ Ok next)
if-ok b answer fault next e = search rules

pub in-line-ok : {A B : Type 0} (number : ℕ) (answer : Result A AsmCode) (go : A → Result B AsmFault) (out : B)
    → (result_of_line number answer >>= go) ≡ Ok out → (here : A) × (answer ≡ Ok here) × (go here ≡ Ok out)
in-line-ok number answer go out e = search rules

-- the first line, and the lines below it
pub first-line : (number : ℕ) (above : Standing) (line : List ℕ) (below : List (List ℕ)) (end : Standing)
    → phase1 number above (line ∷ below) ≡ Ok end
    → (next : Standing) × (after_text above line ≡ Ok next) × (phase1 (number + 1) next below ≡ Ok end)
unfolding phase1
first-line number above line below end e = search rules

-- ---- the first phase gives each line a place that fits it

-- a line adds a place that fits it
pub record Adds (old new : Standing) (line : List ℕ) : Type 0 where
  pub place : LineLayout
  pub added : new.places ≡ old.places ++ place ∷ []
  pub fit : FitsLine line place

item : (old : Standing) (label : Option (List ℕ)) (size : ℕ) (line : List ℕ) (form : Form) → form_of_line line ≡ Ok form
    → IsSized size form.statement → (new : Standing) → after_item old label size ≡ Ok new → Adds old new line
item old label size line form is fit new e = search rules

judged : (old : Standing) (line : List ℕ) (new : Standing) → after_judged old line ≡ Ok new → Adds old new line
judged old line new e = search rules

by-test : (b : Bool) (old : Standing) (line : List ℕ) (new : Standing)
    → (if b then after_judged old line else after_passed old (conditional_of_line line)) ≡ Ok new → Adds old new line
by-test b old line new e = search rules

pub text : (old : Standing) (line : List ℕ) (new : Standing) → after_text old line ≡ Ok new → Adds old new line
unfolding after_text
text old line new e = by-test (is_judged old.conditions (conditional_of_line line)) old line new e

-- all lines
pub record Lays (old new : Standing) (lines : List (List ℕ)) : Type 0 where
  pub places : List LineLayout
  pub added : new.places ≡ old.places ++ places
  pub fit : AllFit lines places

pub laid : (number : ℕ) (old : Standing) (lines : List (List ℕ)) (new : Standing) → phase1 number old lines ≡ Ok new → Lays old new lines
unfolding phase1
laid number old [] new e = search rules
laid number old (line ∷ below) new e = let (after, taken, others) = first-line _ _ _ _ _ e in
    let one = text old line after taken in
    let more = laid (number + 1) after below new others in
    record { places = one.place ∷ more.places; added = grind (arith, common_steps); fit = (one.fit, more.fit) }

pub all-fit : (lines : List (List ℕ)) (new : Standing) → phase1 1 first_standing lines ≡ Ok new → AllFit lines new.places
all-fit lines new e = let all = laid _ _ _ _ e in
    subst (AllFit lines) (sym all.added) all.fit
