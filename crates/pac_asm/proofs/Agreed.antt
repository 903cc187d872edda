-- What the first phase makes of a line is the step that the line takes under an assignment.
use Rattle.pac_asm.proofs.Common.{Bool, Err-is-no-Ok, List, NamesStand, Ok, Option, Some, Symbol, Tree, [], ap, arith, atom, group}
use Rattle.pac_asm.proofs.Common.{if◌then◌else◌, inl, inr, joined, joined_value, none-some, number_of_symbol, refl, rules, sign_value}
use Rattle.pac_asm.proofs.Common.{signed, sym, told, tree_value, ℕ, ℤ, ◌++◌, ◌∙◌, ◌∷◌, ◌≡◌, AsmCode, Conditional, Else, EndIf, Err, If}
use Rattle.pac_asm.proofs.Common.{IfState, Met, None, OpenIf, Otherwise, Over, Passed, Result, TooDeep, Unmet, after_else, after_end}
use Rattle.pac_asm.proofs.Common.{after_skipped, behind_else, behind_endif, behind_skipped, condition_of, counts, ends_part, false, int_eq}
use Rattle.pac_asm.proofs.Common.{is_judged, is_nonzero, is_read, length, most_open_ifs, nat_lt, not, or_parts, pos, same-Ok, subst, true}
use Rattle.pac_asm.proofs.Common.{Form, IsToken, LexFault, Lexeme, Statement, Syntax, Token, TokenKind, after_colon, after_gap}
use Rattle.pac_asm.proofs.Common.{condition, conditional_of_directive, conditional_of_line, directive_of, end_condition, equate, first_word}
use Rattle.pac_asm.proofs.Common.{form_of, form_of_line, is_name_kind, is_some, may_stand, nothing, ok_or, origin, otherwise}
use Rattle.pac_asm.proofs.Common.{prefix-of-all, result_map_both, space, statement_after_label, statement_of, take_at, tokens-read}
use Rattle.pac_asm.proofs.Common.{tokens_of, Blank, Content, Line, LineLayout, LineStep, OrFault, Placed, Skipped, Span, Spot}
use Rattle.pac_asm.proofs.Common.{Standing, ValueResult, after_judged, after_passed, after_statement, after_text, code_of_fault}
use Rattle.pac_asm.proofs.Common.{content_of, count_of, entry_by, entry_if, entry_of, is_new, label_symbols, line_of, room_for, step_by}
use Rattle.pac_asm.proofs.Common.{step_if, step_of, value_above, with_label, with_open_ifs, within_rom, ◌>>=◌}
use Rattle.pac_lex.specs.Results.{◌>>=◌}
use Rattle.std.proofs.lemmas.List.{append-nil}
use Rattle.pac_asm.proofs.InTurn.{gone, if-ok}
use Rattle.pac_expr.specs.Trees as trees
use Rattle.pac_lex.specs.declared.token.TokenKind.TheVariants as kinds
use Rattle.pac_asm_operation.specs.declared.directive.Directive.TheVariants as directives
use Rattle.pac_asm_line.specs.Forms as forms
use Rattle.pac_asm_program.specs.declared.line.Line.TheVariants as entries

-- ---- names that stand for the same number in two assignments, and the values that they give

-- an assignment gives each of these names its number
abbrev pub Extends : List Symbol → (List ℕ → Option ℤ) → Type 0
Extends symbols names = (some : List ℕ) (z : ℤ) → number_of_symbol symbols some ≡ Some z → names some ≡ Some z

-- what stands in the first of two lists stands in both
pub found-first : (xs ys : List Symbol) → Extends xs (number_of_symbol (xs ++ ys))
found-first [] ys some v e = absurd (none-some v e)
found-first (x ∷ xs) ys some v e = grind (arith, found-first xs ys some v)

-- an expression of known names has the value, or the fault, that they give it
known-value : (above : List Symbol) (names : List ℕ → Option ℤ) → Extends above names → (at : ℕ) (tree : Tree) → NamesStand above tree
    → tree_value names at tree ≡ tree_value (number_of_symbol above) at tree
known-value above names extends at (atom (trees.name text)) h = search rules
known-value above names extends at (group tree) h = known-value above names extends at tree h
known-value above names extends at (signed sign tree) h = ap (sign_value sign) (known-value above names extends at tree h)
known-value above names extends at (joined operator left right) h =
    λ i. joined_value operator
    (known-value above names extends at left (λ u. h (inl u)) i)
    (known-value above names extends at right (λ u. h (inr u)) i)
known-value above names extends at tree h = refl

pub same-value : (above : List Symbol) (a b : List ℕ → Option ℤ) → Extends above a → Extends above b → (at : ℕ) (tree : Tree)
    → NamesStand above tree → tree_value a at tree ≡ tree_value b at tree
same-value above a b ea eb at tree h = known-value above a ea at tree h ∙ sym (known-value above b eb at tree h)

-- an expression that has a value keeps it
pub value-extends : (above : List Symbol) (names : List ℕ → Option ℤ) → Extends above names → (at : ℕ) (tree : Tree) (z : ℤ)
    → tree_value (number_of_symbol above) at tree ≡ Ok z → tree_value names at tree ≡ Ok z
value-extends above names extends at tree z e = grind (arith, Err-is-no-Ok, known-value, told)

-- ---- the open IFs of the first phase, as lines are counted by

abbrev pub open_of : IfState → OpenIf
open_of Met = record { is_true = true; is_parted = false }
open_of Unmet = record { is_true = false; is_parted = false }
open_of Otherwise = record { is_true = false; is_parted = true }
open_of Over = record { is_true = true; is_parted = true }
open_of Passed = record { is_true = false; is_parted = false }

abbrev pub opens : List IfState → List OpenIf
opens [] = []
opens (inner ∷ outer) = open_of inner ∷ opens outer

-- an IF of a line that is skipped stands where lines don't count, and every other where they do
abbrev pub IsAmong : IfState → Bool → Type 0
IsAmong Passed around = around ≡ false
IsAmong state around = around ≡ true

abbrev pub AreNested : List IfState → Type 0
AreNested [] = Unit {0}
AreNested (inner ∷ outer) = IsAmong inner (counts (opens outer)) × AreNested outer

pub none-nested : AreNested []
none-nested = tt

-- ---- which lines are read whole

pub read-same : (conditions : List IfState) (word : Option Conditional) → AreNested conditions
    → is_judged conditions word ≡ is_read (opens conditions) word
read-same conditions word nested = search rules

pub counts-none : (ifs : List OpenIf) (word : Option Conditional) → is_read ifs word ≡ false → counts ifs ≡ false
counts-none ifs word e = (or_parts (counts ifs) (ends_part ifs word) e).0

-- ---- what follows them

-- other open IFs, seen as lines are counted by
pub record AreOpen (now : Option (List OpenIf)) (next : List IfState) : Type 0 where
  pub are : now ≡ Some (opens next)
  pub nested : AreNested next

open-at : (now : Option (List OpenIf)) (made next : List IfState) → ◌≡◌ {A = Result (List IfState) AsmCode} (Ok made) (Ok next)
    → now ≡ Some (opens made) → AreNested made → AreOpen now next
open-at now made next e same nested = subst (AreOpen now) (same-Ok made next e) (record { are = same; nested = nested })

pub open-else : (conditions next : List IfState) → AreNested conditions → after_else conditions ≡ Ok next
    → AreOpen (behind_else (opens conditions)) next
open-else (Met ∷ outer) next nested e = open-at _ (Over ∷ outer) next e refl nested
open-else (Unmet ∷ outer) next nested e = open-at _ (Otherwise ∷ outer) next e refl nested
open-else conditions next nested e = absurd cc

pub open-end : (conditions next : List IfState) → AreNested conditions → after_end conditions ≡ Ok next
    → AreOpen (behind_endif (opens conditions)) next
open-end [] next nested e = absurd cc
open-end (inner ∷ outer) next nested e = open-at _ outer next e refl nested.1

passed-if : (b : Bool) (conditions next : List IfState) → AreNested conditions → counts (opens conditions) ≡ false
    → (if b then Ok (Passed ∷ conditions) else Err TooDeep) ≡ Ok next
    → AreOpen (Some (record { is_true = false; is_parted = false } ∷ opens conditions)) next
passed-if b conditions next nested out e = search rules

pub open-skipped : (word : Option Conditional) (conditions next : List IfState) → AreNested conditions → counts (opens conditions) ≡ false
    → after_skipped word conditions ≡ Ok next → AreOpen (Some (behind_skipped word (opens conditions))) next
open-skipped (Some If) conditions next nested out e = passed-if (nat_lt (length conditions) most_open_ifs) conditions next nested out e
open-skipped (Some Else) conditions next nested out e = open-at _ conditions next e refl nested
open-skipped (Some EndIf) [] next nested out e = open-at _ [] next e refl nested
open-skipped (Some EndIf) (inner ∷ outer) next nested out e = open-at _ outer next e refl nested.1
open-skipped None conditions next nested out e = open-at _ conditions next e refl nested

value-open : (b : Bool) → open_of (if b then Unmet else Met) ≡ record { is_true = not b; is_parted = false }
value-open b = search rules

value-among : (b around : Bool) → around ≡ true → IsAmong (if b then Unmet else Met) around
value-among b around e = search rules

pub open-if : (value : ℤ) (conditions : List IfState) → AreNested conditions → counts (opens conditions) ≡ true
    → AreOpen (Some (record { is_true = is_nonzero value; is_parted = false } ∷ opens conditions)) (condition_of value ∷ conditions)
open-if value conditions nested in-all = record {
  are = ap (λ (first : OpenIf). Some (first ∷ opens conditions)) (sym (value-open (int_eq value (pos 0))));
  nested = (value-among (int_eq value (pos 0)) (counts (opens conditions)) in-all, nested);
}

-- ---- the first word of a line whose form is an IF

-- a name after the blanks of a line is the line's first word
named-first : (line text rest : List ℕ) → after_gap line ≡ text ++ rest → IsToken kinds.Name text rest → text ≡ first_word line
named-first line text rest parts (start, all, stop, af) = grind (arith, prefix-of-all, take_at)

-- the first token of a line, where it is a name, is the line's first word
first-is-word : (line : List ℕ) (t : Lexeme) (ts : List Lexeme) → tokens_of line ≡ Ok (t ∷ ts) → t.kind ≡ kinds.Name
    → t.text ≡ first_word line
first-is-word line t ts e named = let (rest, first, more) = (tokens-read _ _ e).1 in
    named-first line t.text rest first.parts (subst (λ (kind : TokenKind). IsToken kind t.text rest) named first.is_token)

-- ---- the form of an IF

abbrev pub is_if : Statement → Bool
is_if (condition test) = true
is_if statement = false

-- a form that was made of a statement
record Stands (label : Option (List ℕ)) (made : Option Statement) (form : Form) : Type 0 where
  is : made ≡ Some form.statement
  may : may_stand (is_some label) form.statement ≡ true

stands : (label : Option (List ℕ)) (made : Option Statement) (form : Form) → forms.form_with_label label made ≡ Some form →
    Stands label made form
stands label made form e = search rules

-- the first token of a form that is an IF
record BeginsIf (tokens : List Lexeme) : Type 0 where
  first : Lexeme
  more : List Lexeme
  are : tokens ≡ first ∷ more
  named : first.kind ≡ kinds.Name
  word : directive_of first.text ≡ Some directives.Condition

form-by : (first : Lexeme) (tokens : List Lexeme) (form : Form) (named starts reserved : Bool) → is_name_kind first.kind ≡ named
    → (if not named then None
    else (if starts then forms.form_with_label None (statement_of first.text tokens)
    else (if reserved then None else forms.form_with_label (Some first.text) (statement_after_label (after_colon tokens))))) ≡ Some form
    → is_if form.statement ≡ true → BeginsIf (first ∷ tokens)
unfolding statement_of
form-by first tokens form named starts reserved is e h = search rules

begins-if : (tokens : List Lexeme) (form : Form) → form_of tokens ≡ Some form → is_if form.statement ≡ true → BeginsIf tokens
unfolding form_of
begins-if tokens form e h = grind (arith, form-by)

-- ---- the line

formed-is : (o : Option Form) (form : Form) → ok_or o Syntax ≡ Ok form → o ≡ Some form
formed-is o form e = search rules

line-by : (line : List ℕ) (answer : Result (List Lexeme) LexFault) (form : Form) → tokens_of line ≡ answer
    → (result_map_both (λ tokens. tokens) Token answer >>= λ tokens. ok_or (form_of tokens) Syntax) ≡ Ok form
    → is_if form.statement ≡ true → conditional_of_line line ≡ Some If
line-by line (Ok tokens) form is e h = let begun = begins-if tokens form (formed-is _ _ e) h in
    let word = first-is-word line begun.first begun.more (is ∙ ap (λ (xs : List Lexeme). Ok xs) begun.are) begun.named in
    ap conditional_of_directive (ap directive_of (sym word) ∙ begun.word)
line-by line (Err fault) form is e h = absurd cc

-- a line whose form is an IF begins with that word
pub word-of-if : (line : List ℕ) (form : Form) → form_of_line line ≡ Ok form → is_if form.statement ≡ true →
    conditional_of_line line ≡ Some If
unfolding form_of_line
word-of-if line form e h = line-by line (tokens_of line) form refl e h

-- ---- numbers, labels and places

known-ok : (answer : ValueResult) (go : ℤ → Result Standing AsmCode) (next : Standing) → (value_above answer >>= go) ≡ Ok next
    → (number : ℤ) × (answer ≡ Ok number) × (go number ≡ Ok next)
known-ok answer go next e = search rules

within-ok : (z : ℤ) (go : ℕ → Result Standing AsmCode) (next : Standing) → (within_rom z >>= go) ≡ Ok next
    → (count : ℕ) × (z ≡ pos count) × (go count ≡ Ok next)
within-ok z go next e = search rules

counted-ok : (answer : ValueResult) (go : ℕ → Result Standing AsmCode) (next : Standing) →
    ((value_above answer >>= within_rom) >>= go) ≡ Ok next → (count : ℕ) × (answer ≡ Ok (pos count)) × (go count ≡ Ok next)
counted-ok answer go next e = search rules

new-label : (symbols : List Symbol) (label : Option (List ℕ)) (number : ℤ) → is_new symbols label ≡ true
    → with_label symbols label number ≡ symbols ++ label_symbols label number
new-label symbols label number e = search rules

room-is : (above : Standing) (size : ℕ) (span : Span) → room_for above size ≡ Ok span → record { at = above.at; size = size } ≡ span
room-is above size span e = search rules

-- ---- what a line becomes

abbrev pub spot_of : Standing → Spot
spot_of standing = record { at = standing.at; ifs = opens standing.conditions }

-- What a line defines goes to the symbols, its place to the places, and the next line stands where the next standing has it.
pub record Agrees (above : Standing) (step : Option LineStep) (Holds : LineLayout → Type 0) (next : Standing) : Type 0 where
  pub new : List Symbol
  pub stepped : step ≡ Some (new, spot_of next)
  pub grown : next.symbols ≡ above.symbols ++ new
  pub nested : AreNested next.conditions
  pub place : LineLayout
  pub added : next.places ≡ above.places ++ place ∷ []
  pub fills : Holds place

-- where the line answers a standing, that is the next one
agrees : {above : Standing} {step : Option LineStep} {Holds : LineLayout → Type 0} (made next : Standing)
    → ◌≡◌ {A = Result Standing AsmCode} (Ok made) (Ok next) → (new : List Symbol) → step ≡ Some (new, spot_of made)
    → made.symbols ≡ above.symbols ++ new → AreNested made.conditions
    → (place : LineLayout) → made.places ≡ above.places ++ place ∷ [] → Holds place → Agrees above step Holds next
agrees {above} {step} {Holds} made next e new stepped grown nested place added fills = search rules

abbrev pub line_or_fault : ℕ → OrFault (Option Content) → Result Line AsmCode
line_or_fault at content = result_map_both (line_of at) code_of_fault content

-- what a statement puts into a program at a place
abbrev pub placed_by : (List ℕ → Option ℤ) → Statement → LineLayout → Result Line AsmCode
placed_by names statement Blank = Ok entries.Blank
placed_by names statement Skipped = Ok entries.Skipped
placed_by names statement (Placed span) = line_or_fault span.at (content_of names span.at span.size statement)

-- the place of a statement is one at which it has its entry
abbrev pub Fills : (List ℕ → Option ℤ) → Spot → Statement → LineLayout → Type 0
Fills names spot statement place = (here : Line) → placed_by names statement place ≡ Ok here → entry_by names spot statement ≡ Some here

fills-item : (names : List ℕ → Option ℤ) (spot : Spot) (statement : Statement) (size : ℕ)
    → count_of names spot.at statement ≡ Some size → Fills names spot statement (Placed (record { at = spot.at; size = size }))
fills-item names spot statement size e here is = search rules

-- what a line puts into a program at a place
abbrev pub line_by : (List ℕ → Option ℤ) → List ℕ → LineLayout → Result Line AsmCode
line_by names line Blank = Ok entries.Blank
line_by names line Skipped = Ok entries.Skipped
line_by names line (Placed span) = form_of_line line >>= λ form. line_or_fault span.at (content_of names span.at span.size form.statement)

abbrev pub FillsLine : (List ℕ → Option ℤ) → Spot → List ℕ → Bool → LineLayout → Type 0
FillsLine names spot line b place = (here : Line) → line_by names line place ≡ Ok here → entry_if names spot line b ≡ Some here

line-reads : (names : List ℕ → Option ℤ) (line : List ℕ) (form : Form) → form_of_line line ≡ Ok form → (place : LineLayout)
    → line_by names line place ≡ placed_by names form.statement place
line-reads names line form e place = search rules

module _ (names : List ℕ → Option ℤ) (above : Standing) (extends : Extends above.symbols names) (nest : AreNested above.conditions) where
  -- other open IFs
  agree-conditions : (answer : Result (List IfState) AsmCode) (now : Option (List OpenIf)) (place : LineLayout)
      (shows : LineLayout → Type 0) → shows place → ((conditions : List IfState) → answer ≡ Ok conditions → AreOpen now conditions)
      → (next : Standing)
      → (answer >>= λ conditions. Ok (record above { conditions = conditions; places = above.places ++ place ∷ [] })) ≡ Ok next
      → Agrees above (with_open_ifs (spot_of above) now) shows next
  agree-conditions answer now place shows here each next e = let (conditions, is, goes) = gone _ _ _ e in
      let o = each conditions is in
      agrees _ next goes [] (grind (arith, o)) (sym (append-nil above.symbols)) o.nested place refl here

  agree-statement : (label : Option (List ℕ)) (statement : Statement) → (is_if statement ≡ true → counts (opens above.conditions) ≡ true)
      → is_new above.symbols label ≡ true → (next : Standing) → after_statement above label statement ≡ Ok next
      → Agrees above (step_by names (spot_of above) label statement) (Fills names (spot_of above) statement) next
  unfolding content_of
  agree-statement label nothing inside is-new next e = grind (arith, agrees, new-label, same-Ok)
  agree-statement label (origin place) inside is-new next e =
      let (z, is, goes) = known-ok (tree_value (number_of_symbol above.symbols) above.at place) _ next e in
      let (count, counted, went) = within-ok z _ next goes in
      agrees _ _ went _ (grind (arith, value-extends)) (sym (append-nil above.symbols)) nest _ refl (λ here is. ap Some (same-Ok _ here is))
  agree-statement label (equate number) inside is-new next e = grind (arith, agrees, known-ok, new-label, same-Ok, value-extends)
  agree-statement label (condition test) inside is-new next e =
      let inner = if-ok (nat_lt (length above.conditions) most_open_ifs) _ _ next e in
      let (z, is, goes) = known-ok (tree_value (number_of_symbol above.symbols) above.at test) _ next inner.1 in
      let o = open-if z above.conditions nest (inside refl) in
      agrees _ next goes [] (grind (arith, opens, value-extends)) (sym (append-nil above.symbols)) o.nested Blank refl
      (λ here is. ap Some (same-Ok _ here is))
  agree-statement label otherwise inside is-new next e =
      agree-conditions _ _ _ _ (λ here is. ap Some (same-Ok _ here is)) (λ conditions is. open-else above.conditions conditions nest is) _ e
  agree-statement label end_condition inside is-new next e =
      agree-conditions _ _ _ _ (λ here is. ap Some (same-Ok _ here is)) (λ conditions is. open-end above.conditions conditions nest is) _ e
  agree-statement label (space size fill) inside is-new next e =
      grind (arith, counted-ok, fills-item, value-extends, agrees, gone, new-label, room-is)
  agree-statement label statement inside is-new next e = grind (arith, fills-item, agrees, gone, new-label, room-is)

  agree-if : (line : List ℕ) (b : Bool) → is_judged above.conditions (conditional_of_line line) ≡ b → (next : Standing)
      → (if b then after_judged above line else after_passed above (conditional_of_line line)) ≡ Ok next
      → Agrees above (step_if names (spot_of above) line b) (FillsLine names (spot_of above) line b) next
  agree-if line true judged next e = let (form, is, formed) = gone (form_of_line line) _ _ e in
      let (is-new, goes) = if-ok (is_new above.symbols form.label) _ _ next formed in
      let inside : is_if form.statement ≡ true → counts (opens above.conditions) ≡ true =
      grind (arith, opens, read-same, word-of-if) in
      let a = agree-statement form.label form.statement inside is-new next goes in grind (arith, line-reads)
  agree-if line false is next e =
      let out = counts-none (opens above.conditions) _ (sym (read-same above.conditions (conditional_of_line line) nest) ∙ is) in
      agree-conditions (after_skipped (conditional_of_line line) above.conditions) _ Skipped _ (λ here is. ap Some (same-Ok _ here is))
      (λ conditions is. open-skipped (conditional_of_line line) above.conditions conditions nest out is) next e

  pub agree-text : (line : List ℕ) (next : Standing) → after_text above line ≡ Ok next
      → Agrees above (step_of names (spot_of above) line)
      (λ place. (here : Line) → line_by names line place ≡ Ok here → entry_of names (spot_of above) line ≡ Some here) next
  unfolding after_text step_of entry_of
  agree-text line next e =
      let judged = is_judged above.conditions (conditional_of_line line) in
      let a = agree-if line judged refl next e in search rules
