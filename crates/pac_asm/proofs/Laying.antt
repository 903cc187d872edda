-- The first phase line by line.
use Rattle.pac_asm.proofs.Common.{AsmError, AsmFault, AssemblyFails, Bool, List, Ok, Option, Result, Some, Standing, [], after_line}
use Rattle.pac_asm.proofs.Common.{after_text, ap, arith, cond, conditional_of_line, false, first_unclosed, is_found_line, is_never_closed}
use Rattle.pac_asm.proofs.Common.{length, lines, option_map, phase1, result_of_line, rules, unless_left_open, ℕ, ◌+◌, ◌>>=◌, ◌∙◌, ◌∷◌}
use Rattle.pac_asm.proofs.Common.{◌≡◌}
use Rattle.pac_asm.proofs.Pairs.{shifted}

-- what is known after some lines: the line after them stands below so many
pub record Laid (first : Standing) (source : List ℕ) (texts : List (List ℕ)) (unclosed : Option ℕ) (above : ℕ) (standing : Standing)
    : Type 0 where
  pub same : phase1 (above + 1) standing texts ≡ phase1 1 first (lines source)
  pub counted : above + length texts ≡ length (lines source)
  pub pairs : unclosed ≡ shifted above (first_unclosed texts)

pub begins : (first : Standing) (source : List ℕ) (unclosed : Option ℕ) → unclosed ≡ first_unclosed (lines source) →
    Laid first source (lines source) unclosed 0 first
begins first source unclosed e = search rules

-- ---- whether the next line is an IF that is never closed

past : (above : ℕ) (x : Option ℕ) → is_found_line (shifted (above + 1) x) above ≡ false
past above x = search rules

here : (above : ℕ) (is_open : Bool) (below : List (List ℕ))
    → is_found_line (shifted above (cond is_open (Some 0) (option_map (λ n. n + 1) (first_unclosed below)))) above ≡ is_open
here above is_open below = search rules

next : (above : ℕ) (is_open : Bool) (below : List (List ℕ)) → is_open ≡ false
    → shifted above (cond is_open (Some 0) (option_map (λ n. n + 1) (first_unclosed below))) ≡ shifted (above + 1) (first_unclosed below)
next above is_open below e = search rules

-- ---- one line more

one-line : (number : ℕ) (old : Standing) (line : List ℕ) (below : List (List ℕ)) (answer : Result Standing AsmFault)
    → result_of_line number (after_line old line below) ≡ answer
    → phase1 number old (line ∷ below) ≡ (answer >>= λ after. phase1 (number + 1) after below)
unfolding phase1
one-line number old line below answer e = ap (λ (r : Result Standing AsmFault). r >>= λ after. phase1 (number + 1) after below) e

module _ (first : Standing) (source line below : List ℕ) (texts : List (List ℕ)) (unclosed : Option ℕ) (above : ℕ) (old : Standing)
    (is_open : Bool) (parts : texts ≡ line ∷ lines below) (at : is_open ≡ is_found_line unclosed above)
    (was : Laid first source texts unclosed above old) where
  abbrev never : Bool
  never = is_never_closed (conditional_of_line line) (lines below)

  now : Laid first source (line ∷ lines below) unclosed above old
  now = rw (← parts) was

  open_is : is_open ≡ never
  open_is = at ∙ ap (λ (x : Option ℕ). is_found_line x above) now.pairs ∙ here above never (lines below)

  pub onward : (new : Standing) → result_of_line (above + 1) (unless_left_open is_open (after_text old line)) ≡ Ok new → is_open ≡ false
      → Laid first source (lines below) unclosed (above + 1) new
  onward new e shut = grind (arith, next, now, one-line)

  pub ends : (error : AsmError) → AssemblyFails error (result_of_line (above + 1) (unless_left_open is_open (after_text old line)))
      → AssemblyFails error (phase1 1 first (lines source))
  ends error h = grind (arith, now, one-line)

pub finished : (first : Standing) (source rest : List ℕ) (unclosed : Option ℕ) (above : ℕ) (standing : Standing) → rest ≡ []
    → Laid first source (lines rest) unclosed above standing → phase1 1 first (lines source) ≡ Ok standing
unfolding phase1
finished first source rest unclosed above standing none was = search rules
