-- For proofs: what proofs say of the definitions of Directives.antt.
use Rattle.std.specs.Prelude.{ℕ, List, Bool, slice_index, ◌==◌}
use Rattle.pac_asm_operation.specs.declared.directive.Directive.{Directive}
use Rattle.std.specs.Char.{to_ascii_lowercase}

-- whether the name of a directive begins with a letter, in either case
abbrev pub begins_directive : ℕ → List ℕ × Directive → Bool
begins_directive letter entry = to_ascii_lowercase (slice_index entry.0 0) == to_ascii_lowercase letter
