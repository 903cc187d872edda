-- Believed: the names of the directives, in either case (this profile).
use Rattle.std.specs.Prelude.{ℕ, Bool, List, [], ◌∷◌, Option, codes, is_some}
use Rattle.std.specs.Map.{lookup}
use Rattle.std.specs.Str.{str_eq_ignore_ascii_case}
use Rattle.pac_asm_operation.specs.declared.directive.Directive.{Directive}
use Rattle.pac_asm_operation.specs.declared.directive.Directive.TheVariants as directives

abbrev pub directive_names : List (List ℕ × Directive)
directive_names =
    (codes "ORG", directives.Origin) ∷ (codes "EQU", directives.Equate)
    ∷ (codes "DEFB", directives.Bytes) ∷ (codes "DB", directives.Bytes)
    ∷ (codes "DEFW", directives.Words) ∷ (codes "DW", directives.Words)
    ∷ (codes "DEFS", directives.Space) ∷ (codes "DS", directives.Space)
    ∷ (codes "DEFM", directives.Text) ∷ (codes "DM", directives.Text)
    ∷ (codes "IF", directives.Condition) ∷ (codes "ELSE", directives.Otherwise) ∷ (codes "ENDIF", directives.EndCondition) ∷ []

-- the directive that a word is, if it is one
unfoldable pub directive_of : List ℕ → Option Directive
directive_of word = lookup (str_eq_ignore_ascii_case word) directive_names

abbrev pub is_directive : List ℕ → Bool
is_directive word = is_some (directive_of word)
