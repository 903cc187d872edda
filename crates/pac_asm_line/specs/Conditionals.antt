-- Believed: the directives by whose first word a line tells which lines count (this profile).
use Rattle.std.specs.Prelude.{ℕ, List, Option, None, Some}
use Rattle.pac_asm_operation.specs.declared.directive.Directive.{Directive}
use Rattle.pac_asm_operation.specs.declared.directive.Directive.TheVariants as directives
use Rattle.pac_asm_operation.specs.Directives.{directive_of}
use Rattle.pac_asm_line.specs.declared.conditional.Conditional.{Conditional}
use Rattle.pac_asm_line.specs.declared.conditional.Conditional.TheVariants.{If, Else, EndIf}

abbrev pub conditional_of_directive : Option Directive → Option Conditional
conditional_of_directive (Some directives.Condition) = Some If
conditional_of_directive (Some directives.Otherwise) = Some Else
conditional_of_directive (Some directives.EndCondition) = Some EndIf
conditional_of_directive other = None

-- what a line's first word opens, parts or closes, in either case, whatever follows it
abbrev pub conditional_word : List ℕ → Option Conditional
conditional_word word = conditional_of_directive (directive_of word)
