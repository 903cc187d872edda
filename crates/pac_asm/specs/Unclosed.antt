-- Believed: how IF and ENDIF pair up: by the first words of all lines alone, whatever else stands in them (this profile).
use Rattle.std.specs.Prelude.{ℕ, zero, suc, Bool, true, false, List, [], ◌∷◌, Option, Some, map}
use Rattle.pac_lex.specs.Words.{first_word}
use Rattle.pac_asm_line.specs.declared.conditional.Conditional.{Conditional}
use Rattle.pac_asm_line.specs.declared.conditional.Conditional.TheVariants.{If, EndIf}
use Rattle.pac_asm_line.specs.Conditionals.{conditional_word}

-- the IF, ELSE or ENDIF that a line begins with, if it begins with one
abbrev pub conditional_of_line : List ℕ → Option Conditional
conditional_of_line line = conditional_word (first_word line)

-- whether no ENDIF among the words below closes an IF, inside which so many are open
abbrev pub stays_open : ℕ → List (Option Conditional) → Bool
stays_open inner [] = true
stays_open inner (Some If ∷ below) = stays_open (suc inner) below
stays_open zero (Some EndIf ∷ below) = false
stays_open (suc inner) (Some EndIf ∷ below) = stays_open inner below
stays_open inner (word ∷ below) = stays_open inner below

-- whether a line that begins with this word is an IF which no line below closes
abbrev pub is_never_closed : Option Conditional → List (List ℕ) → Bool
is_never_closed (Some If) below = stays_open 0 (map conditional_of_line below)
is_never_closed word below = false
