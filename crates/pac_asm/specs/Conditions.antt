-- Believed: which lines count: IF, ELSE and ENDIF choose the lines that become a program (this profile). The innermost
-- open IF stands first in a list of open ones.
use Rattle.std.specs.Prelude.{ℕ, ℤ, pos, Bool, true, false, List, [], ◌∷◌, length, nat_lt, Option, Some, Result, Ok, Err}
use Rattle.std.specs.Prelude.{if◌then◌else◌, ◌||◌}
use Rattle.std.specs.Ordering.{int_eq}
use Rattle.pac_asm_line.specs.declared.conditional.Conditional.{Conditional}
use Rattle.pac_asm_line.specs.declared.conditional.Conditional.TheVariants.{If, Else, EndIf}
use Rattle.pac_asm.specs.declared.condition.IfState.{IfState}
use Rattle.pac_asm.specs.declared.condition.IfState.TheVariants.{Met, Unmet, Otherwise, Over, Passed}
use Rattle.pac_asm.specs.declared.fault.AsmCode.{AsmCode}
use Rattle.pac_asm.specs.declared.fault.AsmCode.TheVariants.{TooDeep, NoOpenIf}

-- whether lines count inside an IF
abbrev pub counts_inside : IfState → Bool
counts_inside Met = true
counts_inside Otherwise = true
counts_inside _ = false

-- whether a line that begins with this word ends the lines that an IF skips
abbrev pub ends_skipping : IfState → Option Conditional → Bool
ends_skipping Unmet (Some Else) = true
ends_skipping Unmet (Some EndIf) = true
ends_skipping Over (Some EndIf) = true
ends_skipping condition word = false

-- Whether a line that begins with this word is judged whole: it counts, or it ends what is skipped.
abbrev pub is_judged : List IfState → Option Conditional → Bool
is_judged [] word = true
is_judged (condition ∷ outer) word = counts_inside condition || ends_skipping condition word

-- the most IFs that may be open at once, skipped ones too
abbrev pub most_open_ifs : ℕ
most_open_ifs = 8

-- A12: with one IF more open
abbrev pub with_if : IfState → List IfState → Result (List IfState) AsmCode
with_if condition conditions = if nat_lt (length conditions) most_open_ifs then Ok (condition ∷ conditions) else Err TooDeep

-- an IF is true where its value isn't 0
abbrev pub condition_of : ℤ → IfState
condition_of value = if int_eq value (pos 0) then Unmet else Met

-- A13: after an ELSE that is judged; it is the first of an open IF
abbrev pub after_else : List IfState → Result (List IfState) AsmCode
after_else (Met ∷ outer) = Ok (Over ∷ outer)
after_else (Unmet ∷ outer) = Ok (Otherwise ∷ outer)
after_else conditions = Err NoOpenIf

-- A13: after an ENDIF that is judged; an IF is open
abbrev pub after_end : List IfState → Result (List IfState) AsmCode
after_end [] = Err NoOpenIf
after_end (condition ∷ outer) = Ok outer

-- After a line that is skipped, of which no more than its first word is looked at: IF and ENDIF pair up there too.
abbrev pub after_skipped : Option Conditional → List IfState → Result (List IfState) AsmCode
after_skipped (Some If) conditions = with_if Passed conditions
after_skipped (Some EndIf) (condition ∷ outer) = Ok outer
after_skipped word conditions = Ok conditions
