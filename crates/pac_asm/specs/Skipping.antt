-- Law: what the lines that IF, ELSE and ENDIF skip leave behind: nothing.
use Rattle.std.specs.Prelude.{◌≡◌, ℕ, false, List, [], ◌∷◌, ◌++◌, length, slice_get, Some, Result, Ok}
use Rattle.std.specs.Str.Lines.{lines as text_lines}
use Rattle.pac_asm_program.specs.Names.{Symbol}
use Rattle.pac_asm_program.specs.Programs.{Assembled, items_in}
use Rattle.pac_asm_program.specs.declared.line.Line.TheVariants as lines
use Rattle.pac_asm.specs.declared.place.LineLayout.TheVariants.{Skipped}
use Rattle.pac_asm.specs.Conditions.{is_judged}
use Rattle.pac_asm.specs.Unclosed.{conditional_of_line}
use Rattle.pac_asm.specs.Results.{◌>>=◌}
use Rattle.pac_asm.specs.Standings.{Standing, first_standing}
use Rattle.pac_asm.specs.Phase1.{after_text}
use Rattle.pac_asm.specs.Phase2.{line_at_place}
use Rattle.pac_asm.specs.Programs.{program_of}
use Rattle.pac_asm.specs.declared.fault.AsmCode.{AsmCode}

-- a line that leaves the address and the symbols as they were, and is marked as skipped
pub record IsPassedOver (above after : Standing) : Type 0 where
  pub at : after.at ≡ above.at
  pub symbols : after.symbols ≡ above.symbols
  pub places : after.places ≡ above.places ++ Skipped ∷ []

-- The law. A line that isn't judged is passed over in the first phase, so it defines no name; in the program it is shown as
-- skipped, and such a line has no item.
pub record SkippedLinesDoNothing : Type 0 where
  pub defines : (above after : Standing) (line : List ℕ) → is_judged above.conditions (conditional_of_line line) ≡ false →
      after_text above line ≡ Ok after → IsPassedOver above after
  pub shown : (symbols : List Symbol) (line : List ℕ) → line_at_place symbols line Skipped ≡ Ok lines.Skipped
  pub places : items_in lines.Skipped ≡ []

-- ---- skipped lines in the program of a source

-- after lines, one after another
unfoldable pub after_texts : Standing → List (List ℕ) → Result Standing AsmCode
after_texts above [] = Ok above
after_texts above (line ∷ below) = after_text above line >>= λ after. after_texts after below

-- What a program has of a line with these above and below it. Line by line they lead to what stands above it, after it and at
-- the end, and the program has the symbols of the end. Where the line isn't judged, it is passed over, so it adds no symbol,
-- and its entry in the program is Skipped, which has no item.
pub record IsLeftOutIfSkipped (program : Assembled) (texts : List (List ℕ)) (line : List ℕ) (below : List (List ℕ)) : Type 0 where
  pub above : Standing
  pub reached : after_texts first_standing texts ≡ Ok above
  pub after : Standing
  pub taken : after_text above line ≡ Ok after
  pub end : Standing
  pub ended : after_texts after below ≡ Ok end
  pub symbols : program.symbols ≡ end.symbols
  pub passed : is_judged above.conditions (conditional_of_line line) ≡ false → IsPassedOver above after
  pub shown : is_judged above.conditions (conditional_of_line line) ≡ false → slice_get program.lines (length texts) ≡ Some lines.Skipped

-- The law, of each line of each source that has a program.
abbrev pub SkippedLinesAreLeftOut : Type 0
SkippedLinesAreLeftOut = (source : List ℕ) (program : Assembled) → program_of source ≡ Ok program →
    (texts below : List (List ℕ)) (line : List ℕ) → text_lines source ≡ texts ++ line ∷ below →
    IsLeftOutIfSkipped program texts line below
