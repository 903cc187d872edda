-- Law: which numbers the names of a source stand for, told of all names at once: every expression is valued by the
-- assignment that is judged, wherever its names are defined.
use Rattle.std.specs.Prelude.{◌≡◌, ℕ, ℤ, pos, ◌+◌, Bool, true, false, not, List, [], ◌∷◌, ◌++◌, Option, Some, None, option_map}
use Rattle.std.specs.Prelude.{Result}
use Rattle.std.specs.Prelude.{Ok, Err}
use Rattle.std.specs.Ordering.{int_eq}
use Rattle.pac_expr.specs.Trees.{Tree}
use Rattle.pac_expr.specs.Values.{ValueResult, tree_value}
use Rattle.pac_expr.specs.ValuesLaws.{HasUndefined}
use Rattle.pac_asm_program.specs.Names.{Symbol, number_of_symbol}
use Rattle.pac_asm_line.specs.Statements.{Statement, nothing, origin, equate, space, condition, otherwise, end_condition}
use Rattle.pac_asm_line.specs.Statements.{Form}
use Rattle.pac_asm_line.specs.Contents.{statement_size}
use Rattle.pac_asm.specs.declared.fault.AsmCode.{AsmCode}
use Rattle.pac_asm.specs.Counting.{OpenIf, is_read, inside_if, behind_else, behind_endif, behind_skipped}
use Rattle.pac_asm.specs.Unclosed.{conditional_of_line}
use Rattle.pac_asm.specs.Standings.{Standing, first_standing}
use Rattle.pac_asm.specs.Reading.{form_of_line}
use Rattle.pac_asm.specs.Phase1.{phase1}

-- where a line stands: its address, and the open IFs, the innermost first
pub record Spot : Type 0 where
  pub at : ℕ
  pub ifs : List OpenIf

-- the names that a line defines, with their numbers, and where the next line stands
abbrev pub LineStep : Type 0
LineStep = List Symbol × Spot

-- what a label defines
abbrev pub label_symbols : Option (List ℕ) → ℤ → List Symbol
label_symbols None number = []
label_symbols (Some name) number = (name, number) ∷ []

-- an address or a size, which is a number from 0 on
abbrev pub optional_count : ValueResult → Option ℕ
optional_count (Ok (pos n)) = Some n
optional_count _ = None

abbrev pub optional_value : ValueResult → Option ℤ
optional_value (Ok z) = Some z
optional_value (Err fault) = None

abbrev pub with_open_ifs : Spot → Option (List OpenIf) → Option LineStep
with_open_ifs spot ifs = option_map (λ ifs. ([], record spot { ifs = ifs })) ifs

-- an IF is true where its value isn't 0
abbrev pub is_nonzero : ℤ → Bool
is_nonzero value = not (int_eq value (pos 0))

-- so many bytes, from the address reached
abbrev pub with_bytes : Spot → Option (List ℕ) → ℕ → LineStep
with_bytes spot label size = (label_symbols label (pos spot.at), record spot { at = spot.at + size })

-- A line that is read whole: a label is its address, and the name of an EQU the value of its expression.
abbrev pub step_by : (List ℕ → Option ℤ) → Spot → Option (List ℕ) → Statement → Option LineStep
step_by names spot label nothing = Some (label_symbols label (pos spot.at), spot)
step_by names spot label (origin place) =
    option_map (λ at. ([], record spot { at = at })) (optional_count (tree_value names spot.at place))
step_by names spot label (equate number) =
    option_map (λ value. (label_symbols label value, spot)) (optional_value (tree_value names spot.at number))
step_by names spot label (condition test) =
    with_open_ifs spot (option_map (λ value. inside_if (is_nonzero value) spot.ifs) (optional_value (tree_value names spot.at test)))
step_by names spot label otherwise = with_open_ifs spot (behind_else spot.ifs)
step_by names spot label end_condition = with_open_ifs spot (behind_endif spot.ifs)
step_by names spot label (space size fill) = option_map (with_bytes spot label) (optional_count (tree_value names spot.at size))
step_by names spot label statement = Some (with_bytes spot label (statement_size statement))

abbrev pub step_read : (List ℕ → Option ℤ) → Spot → Result Form AsmCode → Option LineStep
step_read names spot (Ok form) = step_by names spot form.label form.statement
step_read names spot (Err code) = None

-- a line that is read whole, and one that is skipped
abbrev pub step_if : (List ℕ → Option ℤ) → Spot → List ℕ → Bool → Option LineStep
step_if names spot line true = step_read names spot (form_of_line line)
step_if names spot line false = with_open_ifs spot (Some (behind_skipped (conditional_of_line line) spot.ifs))

unfoldable pub step_of : (List ℕ → Option ℤ) → Spot → List ℕ → Option LineStep
step_of names spot line = step_if names spot line (is_read spot.ifs (conditional_of_line line))

-- what lines define, in order, where the first of them stands here
abbrev pub defined_after : Option LineStep → (Spot → Option (List Symbol)) → Option (List Symbol)
defined_after None below = None
defined_after (Some step) below = option_map (λ more. step.0 ++ more) (below step.1)

unfoldable pub defined_in : (List ℕ → Option ℤ) → Spot → List (List ℕ) → Option (List Symbol)
defined_in names spot [] = Some []
defined_in names spot (line ∷ below) = defined_after (step_of names spot line) (λ next. defined_in names next below)

-- the first line stands at address 0, and no IF is open
abbrev pub first_spot : Spot
first_spot = record { at = 0; ifs = [] }

-- An assignment of numbers to names is right where it has exactly the names that the lines define, each with the number
-- that its line gives it, the first line where two define a name.
pub record IsRight (lines : List (List ℕ)) (names : List ℕ → Option ℤ) : Type 0 where
  pub definitions : List Symbol
  pub defined : defined_in names first_spot lines ≡ Some definitions
  pub assigned : (name : List ℕ) → names name ≡ number_of_symbol definitions name

-- these symbols are right, and no other assignment is
pub record OneIsRight (lines : List (List ℕ)) (symbols : List Symbol) : Type 0 where
  pub right : IsRight lines (number_of_symbol symbols)
  pub only : (names : List ℕ → Option ℤ) → IsRight lines names → (name : List ℕ) → names name ≡ number_of_symbol symbols name

-- The law. The first phase needs each name of an ORG, an EQU, a DEFS size or an IF defined above. Where it finds no fault,
-- the symbols that it found are right, and no other assignment is.
abbrev pub SymbolsAreRight : Type 0
SymbolsAreRight = (lines : List (List ℕ)) (after : Standing) → phase1 1 first_standing lines ≡ Ok after →
    OneIsRight lines after.symbols

-- ---- the law of any source

-- each name of an expression is defined above
abbrev pub NamesStand : List Symbol → Tree → Type 0
NamesStand above tree = HasUndefined (number_of_symbol above) tree → ⊥

-- each name in the expression of an ORG, an EQU and an IF, and in the size of a DEFS, is defined above
abbrev pub StatementStands : List Symbol → Statement → Type 0
StatementStands above (origin place) = NamesStand above place
StatementStands above (equate number) = NamesStand above number
StatementStands above (condition test) = NamesStand above test
StatementStands above (space size fill) = NamesStand above size
StatementStands above statement = Unit {0}

abbrev pub ReadStands : List Symbol → Result Form AsmCode → Type 0
ReadStands above (Ok form) = StatementStands above form.statement
ReadStands above (Err code) = Unit {0}

-- a line that is read whole; one that is skipped names nothing
abbrev pub LineStands : List Symbol → List ℕ → Bool → Type 0
LineStands above line true = ReadStands above (form_of_line line)
LineStands above line false = Unit {0}

-- what holds of the lines after one, if there is a way past it
abbrev pub RestStands : Option LineStep → (LineStep → Type 0) → Type 0
RestStands None below = Unit {0}
RestStands (Some step) below = below step

-- In each of these lines the names of such an expression are defined above it: before them or by a line between.
abbrev pub AreDefinedAbove : (List ℕ → Option ℤ) → List Symbol → Spot → List (List ℕ) → Type 0
AreDefinedAbove names above spot [] = Unit {0}
AreDefinedAbove names above spot (line ∷ below) =
    LineStands above line (is_read spot.ifs (conditional_of_line line)) ×
    RestStands (step_of names spot line) (λ step. AreDefinedAbove names (above ++ step.0) step.1 below)

-- The law. Where each name of an ORG, an EQU, the size of a DEFS and an IF is defined above, at most one assignment is right,
-- whatever else is wrong with the source.
abbrev pub AtMostOneIsRight : Type 0
AtMostOneIsRight = (lines : List (List ℕ)) (names other : List ℕ → Option ℤ) → IsRight lines names → IsRight lines other →
    AreDefinedAbove names [] first_spot lines → (name : List ℕ) → other name ≡ names name
