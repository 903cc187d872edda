-- Believed: the first phase: line by line, from the first on, up to the first fault. In a line the faults come in the
-- order A1, A2, A12, A13, A3, A4, A10, A5, A6, A14 (this profile).
use Rattle.std.specs.Prelude.{ℕ, Bool, pos, ◌+◌, List, [], ◌∷◌, ◌++◌, length, nat_lt, Option, Result, Ok, Err}
use Rattle.std.specs.Prelude.{if◌then◌else◌}
use Rattle.pac_asm_line.specs.declared.conditional.Conditional.{Conditional}
use Rattle.pac_asm_line.specs.Statements.{Statement, nothing, origin, equate, space, condition, otherwise, end_condition}
use Rattle.pac_asm_line.specs.Statements.{Form}
use Rattle.pac_asm_line.specs.Contents.{statement_size}
use Rattle.pac_asm.specs.Results.{◌>>=◌, result_of_line}
use Rattle.pac_asm.specs.Reading.{form_of_line}
use Rattle.pac_asm.specs.Conditions.{is_judged, most_open_ifs, condition_of, after_else, after_end, after_skipped}
use Rattle.pac_asm.specs.Unclosed.{conditional_of_line, is_never_closed}
use Rattle.pac_asm.specs.Standings.{Standing, known_value, within_rom, is_new, with_label, room_for}
use Rattle.pac_asm.specs.declared.place.LineLayout.TheVariants.{Blank, Skipped, Placed}
use Rattle.pac_asm.specs.declared.fault.AsmCode.{AsmCode}
use Rattle.pac_asm.specs.declared.fault.AsmCode.TheVariants.{DefinedBefore, TooDeep, NeverClosed}
use Rattle.pac_asm.specs.declared.fault.AsmFault.{AsmFault}

-- how many bytes a statement takes: the value of its first expression where it is a DEFS
abbrev pub size_above : Standing → Statement → Result ℕ AsmCode
size_above above (space size fill) = known_value above size >>= within_rom
size_above above statement = Ok (statement_size statement)

-- after a line that has an item of so many bytes, at the address reached
abbrev pub after_item : Standing → Option (List ℕ) → ℕ → Result Standing AsmCode
after_item above label size = do
  span ← room_for above size
  Ok (record above {
    at = above.at + size;
    symbols = with_label above.symbols label (pos above.at);
    places = above.places ++ Placed span ∷ [];
  })

-- After a statement in a line whose label is new. ORG, IF, ELSE and ENDIF have no label, and that of an EQU is its name.
abbrev pub after_statement : Standing → Option (List ℕ) → Statement → Result Standing AsmCode
after_statement above label nothing =
    Ok (record above { symbols = with_label above.symbols label (pos above.at); places = above.places ++ Blank ∷ [] })
after_statement above label (origin place) = do
  number ← known_value above place
  at ← within_rom number
  Ok (record above { at = at; places = above.places ++ Blank ∷ [] })
after_statement above label (equate number) = do
  value ← known_value above number
  Ok (record above { symbols = with_label above.symbols label value; places = above.places ++ Blank ∷ [] })
after_statement above label (condition test) =
    if nat_lt (length above.conditions) most_open_ifs then (do
      value ← known_value above test
      Ok (record above { conditions = condition_of value ∷ above.conditions; places = above.places ++ Blank ∷ [] }))
    else Err TooDeep
after_statement above label otherwise = do
  conditions ← after_else above.conditions
  Ok (record above { conditions = conditions; places = above.places ++ Blank ∷ [] })
after_statement above label end_condition = do
  conditions ← after_end above.conditions
  Ok (record above { conditions = conditions; places = above.places ++ Blank ∷ [] })
after_statement above label statement = do
  size ← size_above above statement
  after_item above label size

-- A3, before all that the statement may be refused for
abbrev pub after_form : Standing → Form → Result Standing AsmCode
after_form above form =
    if is_new above.symbols form.label then after_statement above form.label form.statement else Err DefinedBefore

-- after a line that is judged whole, and after one that is skipped
abbrev pub after_judged : Standing → List ℕ → Result Standing AsmCode
after_judged above line = form_of_line line >>= after_form above

abbrev pub after_passed : Standing → Option Conditional → Result Standing AsmCode
after_passed above word = do
  conditions ← after_skipped word above.conditions
  Ok (record above { conditions = conditions; places = above.places ++ Skipped ∷ [] })

-- after a line by itself, whatever stands below it
unfoldable pub after_text : Standing → List ℕ → Result Standing AsmCode
after_text above line =
    if is_judged above.conditions (conditional_of_line line) then after_judged above line else after_passed above (conditional_of_line line)

-- A14, after all other faults of a line
abbrev pub unless_left_open : Bool → Result Standing AsmCode → Result Standing AsmCode
unless_left_open is_open (Ok after) = if is_open then Err NeverClosed else Ok after
unless_left_open is_open (Err code) = Err code

-- after a line, with the lines below it
abbrev pub after_line : Standing → List ℕ → List (List ℕ) → Result Standing AsmCode
after_line above line below = unless_left_open (is_never_closed (conditional_of_line line) below) (after_text above line)

-- after the lines from this number on, or the first fault
unfoldable pub phase1 : ℕ → Standing → List (List ℕ) → Result Standing AsmFault
phase1 number above [] = Ok above
phase1 number above (line ∷ below) = do
  after ← result_of_line number (after_line above line below)
  phase1 (number + 1) after below
