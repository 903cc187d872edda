-- Law: which lines count (this profile). IF and ENDIF pair up by the first words of all lines. Between an IF and its
-- ELSE lines count where the IF's value isn't 0, and between the ELSE and the ENDIF where it is 0; a line counts where it does so
-- in each IF that is open around it.
use Rattle.std.specs.Prelude.{Bool, true, false, not, ◌&&◌, ◌||◌, if◌then◌else◌, List, [], ◌∷◌, Option, Some, None}
use Rattle.pac_asm_line.specs.declared.conditional.Conditional.{Conditional}
use Rattle.pac_asm_line.specs.declared.conditional.Conditional.TheVariants.{If, Else, EndIf}

-- an IF that is open around a line: whether its value isn't 0, and whether its ELSE stands above the line
pub record OpenIf : Type 0 where
  pub is_true : Bool
  pub is_parted : Bool

-- whether the lines of this part of an IF are those that count
abbrev pub is_chosen : OpenIf → Bool
is_chosen inner = if inner.is_parted then not inner.is_true else inner.is_true

-- whether lines count in all of these IFs, of which the innermost stands first
abbrev pub counts : List OpenIf → Bool
counts [] = true
counts (inner ∷ outer) = is_chosen inner && counts outer

-- Whether a line that begins with this word parts or closes the innermost of these IFs, where the lines around that count. A
-- second ELSE parts nothing.
abbrev pub ends_part : List OpenIf → Option Conditional → Bool
ends_part (inner ∷ outer) (Some Else) = not inner.is_parted && counts outer
ends_part (inner ∷ outer) (Some EndIf) = counts outer
ends_part ifs word = false

-- Whether a line that begins with this word is read whole: it counts, or it is the ELSE or the ENDIF of an IF that does. Any other
-- line is skipped, and no more than its first word is looked at.
abbrev pub is_read : List OpenIf → Option Conditional → Bool
is_read ifs word = counts ifs || ends_part ifs word

-- after an IF of this value
abbrev pub inside_if : Bool → List OpenIf → List OpenIf
inside_if holds outer = record { is_true = holds; is_parted = false } ∷ outer

-- after an ELSE, which is the first of an open IF
abbrev pub behind_else : List OpenIf → Option (List OpenIf)
behind_else [] = None
behind_else (inner ∷ outer) = if inner.is_parted then None else Some (record { is_true = inner.is_true; is_parted = true } ∷ outer)

-- after an ENDIF, which closes an open IF
abbrev pub behind_endif : List OpenIf → Option (List OpenIf)
behind_endif [] = None
behind_endif (inner ∷ outer) = Some outer

-- after a line that is skipped: IF and ENDIF pair up there too, whatever else stands in their lines
abbrev pub behind_skipped : Option Conditional → List OpenIf → List OpenIf
behind_skipped (Some If) ifs = inside_if false ifs
behind_skipped (Some EndIf) (inner ∷ outer) = outer
behind_skipped word ifs = ifs
