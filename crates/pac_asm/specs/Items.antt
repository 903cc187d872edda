-- For proofs: places that fit their lines, and lines at their places.
use Rattle.std.specs.Prelude.{◌≡◌, ℕ, List, [], ◌∷◌, length, Ok}
use Rattle.pac_code.specs.Items.{Item, bytes_of, IsValid}
use Rattle.pac_asm_program.specs.declared.line.Line.{Line}
use Rattle.pac_asm_program.specs.declared.line.Line.TheVariants as lines
use Rattle.pac_asm_line.specs.Statements.{Statement, nothing, origin, equate, space, condition, otherwise, end_condition}
use Rattle.pac_asm_line.specs.Statements.{Form}
use Rattle.pac_asm_line.specs.Contents.{statement_size}
use Rattle.pac_asm.specs.declared.place.Span.{Span}
use Rattle.pac_asm.specs.declared.place.LineLayout.{LineLayout}
use Rattle.pac_asm.specs.declared.place.LineLayout.TheVariants.{Blank, Skipped, Placed}
use Rattle.pac_asm.specs.Reading.{form_of_line}

-- ---- places that fit their lines

-- a statement that has an item of so many bytes; a DEFS may have any
abbrev pub IsSized : ℕ → Statement → Type 0
IsSized size nothing = ⊥
IsSized size (origin place) = ⊥
IsSized size (equate number) = ⊥
IsSized size (condition test) = ⊥
IsSized size otherwise = ⊥
IsSized size end_condition = ⊥
IsSized size (space count fill) = Unit {0}
IsSized size statement = size ≡ statement_size statement

abbrev pub FitsLine : List ℕ → LineLayout → Type 0
FitsLine line Blank = Unit {0}
FitsLine line Skipped = Unit {0}
FitsLine line (Placed span) = (form : Form) × (form_of_line line ≡ Ok form) × IsSized span.size form.statement

-- each line with its place
abbrev pub AllFit : List (List ℕ) → List LineLayout → Type 0
AllFit [] [] = Unit {0}
AllFit (line ∷ lines) (place ∷ places) = FitsLine line place × AllFit lines places
AllFit lines places = ⊥

-- ---- a line at its place

-- the item of a span
pub record IsItemOf (span : Span) (item : Item) : Type 0 where
  pub at : item.at ≡ span.at
  pub size : length (bytes_of item) ≡ span.size
  pub valid : IsValid item.content

abbrev pub IsLineOf : LineLayout → Line → Type 0
IsLineOf Blank lines.Blank = Unit {0}
IsLineOf Skipped lines.Skipped = Unit {0}
IsLineOf (Placed span) (lines.Placed item) = IsItemOf span item
IsLineOf place line = ⊥
