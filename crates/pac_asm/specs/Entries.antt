-- For proofs: what a program has of each line, under an assignment of numbers to names: the item that the line's form has by
-- that assignment, at the address where the line stands.
use Rattle.std.specs.Prelude.{◌≡◌, ℕ, ℤ, Bool, true, false, List, [], ◌∷◌, Option, Some, None, option_map, Result, Ok, Err}
use Rattle.pac_code.specs.Items.{Content}
use Rattle.pac_expr.specs.Values.{tree_value}
use Rattle.pac_asm_program.specs.Names.{number_of_symbol}
use Rattle.pac_asm_program.specs.Programs.{Assembled}
use Rattle.pac_asm_program.specs.declared.line.Line.{Line}
use Rattle.pac_asm_program.specs.declared.line.Line.TheVariants.{Blank, Skipped, Placed}
use Rattle.pac_asm_line.specs.Statements.{Statement, space, Form}
use Rattle.pac_asm_line.specs.Contents.{OrFault, statement_size, content_of}
use Rattle.pac_asm.specs.declared.fault.AsmCode.{AsmCode}
use Rattle.pac_asm.specs.Counting.{is_read}
use Rattle.pac_asm.specs.Unclosed.{conditional_of_line}
use Rattle.pac_asm.specs.Reading.{form_of_line}
use Rattle.pac_asm.specs.Assignments.{Spot, LineStep, optional_count, step_of, first_spot}

-- how many bytes a statement takes at an address: those of a DEFS are the value of its first expression
abbrev pub count_of : (List ℕ → Option ℤ) → ℕ → Statement → Option ℕ
count_of names at (space size fill) = optional_count (tree_value names at size)
count_of names at statement = Some (statement_size statement)

-- what is shown of a line at this address
abbrev pub entry_at : ℕ → OrFault (Option Content) → Option Line
entry_at at (Ok None) = Some Blank
entry_at at (Ok (Some content)) = Some (Placed (record { at = at; content = content }))
entry_at at (Err fault) = None

abbrev pub entry_sized : (List ℕ → Option ℤ) → ℕ → Statement → Option ℕ → Option Line
entry_sized names at statement None = None
entry_sized names at statement (Some size) = entry_at at (content_of names at size statement)

abbrev pub entry_by : (List ℕ → Option ℤ) → Spot → Statement → Option Line
entry_by names spot statement = entry_sized names spot.at statement (count_of names spot.at statement)

abbrev pub entry_read : (List ℕ → Option ℤ) → Spot → Result Form AsmCode → Option Line
entry_read names spot (Ok form) = entry_by names spot form.statement
entry_read names spot (Err code) = None

-- a line that is read whole, and one that is skipped
abbrev pub entry_if : (List ℕ → Option ℤ) → Spot → List ℕ → Bool → Option Line
entry_if names spot line true = entry_read names spot (form_of_line line)
entry_if names spot line false = Some Skipped

unfoldable pub entry_of : (List ℕ → Option ℤ) → Spot → List ℕ → Option Line
entry_of names spot line = entry_if names spot line (is_read spot.ifs (conditional_of_line line))

-- what a program has of lines, in order, where the first of them stands here
abbrev pub entry_before : Option Line → Option (List Line) → Option (List Line)
entry_before None more = None
entry_before (Some entry) more = option_map (λ entries. entry ∷ entries) more

abbrev pub entries_after : Option LineStep → (Spot → Option (List Line)) → Option (List Line)
entries_after None below = None
entries_after (Some step) below = below step.1

unfoldable pub entries_in : (List ℕ → Option ℤ) → Spot → List (List ℕ) → Option (List Line)
entries_in names spot [] = Some []
entries_in names spot (line ∷ below) =
    entry_before (entry_of names spot line) (entries_after (step_of names spot line) (λ next. entries_in names next below))

-- A program has exactly the entries of these lines under its symbols.
abbrev pub HasEntriesOf : List (List ℕ) → Assembled → Type 0
HasEntriesOf lines program = entries_in (number_of_symbol program.symbols) first_spot lines ≡ Some program.lines
