-- Believed: the second phase: what each placed line puts into the program, once all names are known. In a line the faults
-- come in the order A8, A10, A9 (this profile).
use Rattle.std.specs.Prelude.{ℕ, ◌+◌, List, [], ◌∷◌, ◌++◌, Option, Some, None, Result, Ok}
use Rattle.std.specs.Result.{result_map_both}
use Rattle.pac_code.specs.Items.{Content}
use Rattle.pac_asm_operation.specs.declared.OperationFault.{OperationFault}
use Rattle.pac_asm_operation.specs.declared.OperationFault.TheVariants as operations
use Rattle.pac_asm_line.specs.Contents.{content_of}
use Rattle.pac_asm_program.specs.Names.{Symbol, number_of_symbol}
use Rattle.pac_asm_program.specs.declared.line.Line.{Line}
use Rattle.pac_asm_program.specs.declared.line.Line.TheVariants as lines
use Rattle.pac_asm.specs.Results.{◌>>=◌, result_of_line}
use Rattle.pac_asm.specs.Reading.{form_of_line}
use Rattle.pac_asm.specs.declared.place.LineLayout.{LineLayout}
use Rattle.pac_asm.specs.declared.place.LineLayout.TheVariants.{Blank, Skipped, Placed}
use Rattle.pac_asm.specs.declared.fault.AsmCode.{AsmCode}
use Rattle.pac_asm.specs.declared.fault.AsmCode.TheVariants.{Undefined, OutOfRange, Arithmetic}
use Rattle.pac_asm.specs.declared.fault.AsmFault.{AsmFault}

abbrev pub code_of_fault : OperationFault → AsmCode
code_of_fault operations.Undefined = Undefined
code_of_fault operations.Arithmetic = Arithmetic
code_of_fault operations.Range = OutOfRange

-- a line with its item, if it has one
abbrev pub line_of : ℕ → Option Content → Line
line_of at None = lines.Blank
line_of at (Some content) = lines.Placed (record { at = at; content = content })

-- what a line puts into the program, at the place that the first phase gave it
abbrev pub line_at_place : List Symbol → List ℕ → LineLayout → Result Line AsmCode
line_at_place symbols line Blank = Ok lines.Blank
line_at_place symbols line Skipped = Ok lines.Skipped
line_at_place symbols line (Placed span) =
    form_of_line line >>= λ form.
    result_map_both (line_of span.at) code_of_fault (content_of (number_of_symbol symbols) span.at span.size form.statement)

-- what the lines from this number on put into the program, after those before them, or the first fault
unfoldable pub phase2 : List Symbol → ℕ → List Line → List (List ℕ) → List LineLayout → Result (List Line) AsmFault
phase2 symbols number before (line ∷ below) (place ∷ places) = do
  here ← result_of_line number (line_at_place symbols line place)
  phase2 symbols (number + 1) (before ++ here ∷ []) below places
phase2 symbols number before below places = Ok before
