-- The second phase line by line.
use Rattle.std.proofs.lemmas.Grind.{common_steps}
use Rattle.pac_asm.proofs.Common.{All, All-head, All-push, All-tail, AllFit, ArePlacesApart, AsmCode, Bool, FitsLine, Form}
use Rattle.pac_asm.proofs.Common.{IsApartFrom, IsFit, IsFree, IsFreePlace, IsItemOf, IsLineOf, IsSized, Item, Lexeme, Line, LineError}
use Rattle.pac_asm.proofs.Common.{LineLayout, List, None, Ok, Option, Placed, SizeFits, Some, Span, Statement, Symbol, [], and_parts, arith}
use Rattle.pac_asm.proofs.Common.{both_ways, bytes_of, cases_Bool, content_of, covers, fails-in-range, false, flat_map}
use Rattle.pac_asm.proofs.Common.{form_of, form_of_line, inl, inr, is_taken, items_in, leb, leb-true, length, line_at_place, lines}
use Rattle.pac_asm.proofs.Common.{list_any, list_any-append, ltb, ltb-true, phase2, refl, result_of_line, rules}
use Rattle.pac_asm.proofs.Common.{Result, append-nil, ◌>>=◌, tokens_of, true, ℕ, ℤ, ◌++◌, ◌+◌, ◌<◌, ◌∙◌, ◌∷◌, ◌≡◌, ◌≤◌, ◌⊎◌}
use Rattle.pac_asm_program.specs.declared.line.Line.TheVariants as line
use Rattle.pac_asm.specs.Errors as error
use Rattle.pac_asm_program.specs.RomLaws as rom_laws

-- ---- a placed line has an item

pub some-content : (names : List ℕ → Option ℤ) (here size : ℕ) (s : Statement) → IsSized size s → content_of names here size s ≡ Ok None → ⊥
unfolding content_of
some-content names here size s h e = search rules

pub size-fits : (size : ℕ) (s : Statement) → IsSized size s → SizeFits size s
size-fits size s h = search rules

-- the form of a line is the one that its place fits
pub fits-form : (line : List ℕ) (span : Span) (lexemes : List Lexeme) (form : Form) → tokens_of line ≡ Ok lexemes
    → form_of lexemes ≡ Some form → FitsLine line (Placed span) → IsSized span.size form.statement
unfolding form_of_line
fits-form line span lexemes form e f (fitting, is, sized) = grind arith

-- ---- items that lie apart

-- whether one of these items covers an address
abbrev is_covered : List Item → ℕ → Bool
is_covered items cell = list_any (λ item. covers item cell) items

-- an item lies in the ROM, where none of these has a byte
record IsFreeItem (items : List Item) (item : Item) : Type 0 where
  fit : IsFit item
  apart : (cell : ℕ) → covers item cell ≡ true → is_covered items cell ≡ false

abbrev IsFreeLine : List Item → Line → Type 0
IsFreeLine items (line.Placed item) = IsFreeItem items item
IsFreeLine items here = Unit {0}

apart-push : (items : List Item) (item : Item) → rom_laws.AreApart items → All (λ x. IsApartFrom x item) items
    → rom_laws.AreApart (items ++ item ∷ [])
apart-push [] item h all = (λ k d below. absurd (omega arith), tt)
apart-push (x ∷ items) item h all = (
  All-push (IsApartFrom x) items item h.0 (All-head (λ x. IsApartFrom x item) x items all),
  apart-push items item h.1 (All-tail (λ x. IsApartFrom x item) x items all),
)

free-apart : (items : List Item) (item : Item) → IsFreeItem items item → All (λ x. IsApartFrom x item) items
free-apart items item free k d below cell e = grind (arith, both_ways, cases_Bool, free, common_steps)

-- items that fit and lie apart
pub record AreLaid (items : List Item) : Type 0 where
  pub apart : rom_laws.AreApart items
  pub fit : All IsFit items

laid-push : (items : List Item) (here : Line) → IsFreeLine items here → AreLaid items → AreLaid (items ++ items_in here)
laid-push items (line.Placed item) free laid = record {
  apart = apart-push items item laid.apart (free-apart items item free);
  fit = All-push IsFit items item laid.fit free.fit;
}
laid-push items here free laid = rw append-nil laid

-- ---- a line at its place lies apart

-- items that cover the cells of the places above
module _ (items : List Item) (above : List LineLayout) (cells : (cell : ℕ) → is_covered items cell ≡ is_taken above cell) where
  free-item : (span : Span) (item : Item) → IsFree above span → IsItemOf span item → IsFreeItem items item
  free-item span item free is = record {
    fit = record { valid = is.valid; inside = omega (arith, is.at, is.size, free.inside) };
    apart = λ cell e.
        let (low, high) = and_parts (leb item.at cell) (ltb cell (item.at + length (bytes_of item))) e in
        let from : item.at ≤ cell = leb-true _ _ low in
        let to : cell < item.at + length (bytes_of item) = ltb-true _ _ high in
        cells cell
        ∙ fails-in-range (is_taken above) span.at span.size cell free.apart (omega (arith, is.at)) (omega (arith, is.at, is.size));
  }

  free-line : (place : LineLayout) (here : Line) → IsFreePlace above place → IsLineOf place here → IsFreeLine items here
  free-line (Placed span) (line.Placed item) free is = free-item span item free is
  free-line place (line.Placed item) free is = absurd is
  free-line place here free is = tt

  cells-more : (place : LineLayout) (here : Line) → IsLineOf place here
      → (cell : ℕ) → is_covered (items ++ items_in here) cell ≡ is_taken (above ++ place ∷ []) cell
  cells-more place here is cell = grind (arith, list_any-append)

-- ---- line by line

-- what is known after some lines, whose places stand above
pub record Filling (source : List ℕ) (texts : List (List ℕ)) (symbols : List Symbol) (places left : List LineLayout) (number : ℕ)
    (filled : List Line) : Type 0 where
  pub above : List LineLayout
  pub apart : ArePlacesApart above left
  pub cells : (cell : ℕ) → is_covered (flat_map items_in filled) cell ≡ is_taken above cell
  pub fit : AllFit texts left
  pub same : phase2 symbols number filled texts left ≡ phase2 symbols 1 [] (lines source) places
  pub counted : number + length texts ≡ length (lines source) + 1
  pub laid : AreLaid (flat_map items_in filled)

pub begins : (source : List ℕ) (symbols : List Symbol) (places : List LineLayout) (filled : List Line) → filled ≡ []
    → ArePlacesApart [] places → AllFit (lines source) places → Filling source (lines source) symbols places places 1 filled
begins source symbols places filled none apart fit = search rules

one-line : (symbols : List Symbol) (number : ℕ) (before : List Line) (text : List ℕ) (below : List (List ℕ)) (place : LineLayout)
    (places : List LineLayout) (answer : Result Line AsmCode) → line_at_place symbols text place ≡ answer
    → phase2 symbols number before (text ∷ below) (place ∷ places)
    ≡ (result_of_line number answer >>= λ here. phase2 symbols (number + 1) (before ++ here ∷ []) below places)
unfolding phase2
one-line symbols number before text below place places answer e = rw e refl

module _ (source text below : List ℕ) (texts : List (List ℕ)) (symbols : List Symbol) (places left others : List LineLayout)
    (place : LineLayout) (number : ℕ) (filled : List Line) (parts : texts ≡ text ∷ lines below) (split : left ≡ place ∷ others)
    (was : Filling source texts symbols places left number filled) where
  now : Filling source (text ∷ lines below) symbols places (place ∷ others) number filled
  now = rw (← parts, ← split) was

  pub fits : FitsLine text place
  fits = now.fit.0

  pub onward : (here : Line) (more : List Line) → line_at_place symbols text place ≡ Ok here → IsLineOf place here
      → more ≡ filled ++ here ∷ [] → Filling source (lines below) symbols places others (number + 1) more
  onward here more e is grown = grind (arith, cells-more, free-line, laid-push, now, one-line, common_steps)

  pub ends : (cause : LineError) → error.LineFails cause (line_at_place symbols text place)
      → error.AssemblyFails (error.error_of_line cause number) (phase2 symbols 1 [] (lines source) places)
  ends cause h = grind (arith, one-line, now)

no-more : (symbols : List Symbol) (number : ℕ) (before : List Line) (texts : List (List ℕ)) (left : List LineLayout)
    → (texts ≡ []) ⊎ (left ≡ []) → phase2 symbols number before texts left ≡ Ok before
unfolding phase2
no-more symbols number before (text ∷ texts) (place ∷ left) (inl h) = absurd (cc)
no-more symbols number before (text ∷ texts) (place ∷ left) (inr h) = absurd (cc)
no-more symbols number before texts left h = refl

pub finished : (source rest : List ℕ) (symbols : List Symbol) (places left : List LineLayout) (number : ℕ) (filled : List Line)
    → (rest ≡ []) ⊎ (left ≡ []) → Filling source (lines rest) symbols places left number filled
    → phase2 symbols 1 [] (lines source) places ≡ Ok filled
finished source rest symbols places left number filled over was = grind (arith, no-more)
