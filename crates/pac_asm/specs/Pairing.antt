-- For proofs: the pairing of IF and ENDIF line by line, as the code follows it.
use Rattle.std.specs.Prelude.{ℕ, ◌+◌, ◌-◌, ◌==◌, Bool, false, Option, Some, None, if◌then◌else◌}
use Rattle.pac_asm_line.specs.declared.conditional.Conditional.{Conditional}
use Rattle.pac_asm_line.specs.declared.conditional.Conditional.TheVariants.{If, EndIf}
use Rattle.pac_asm.specs.declared.lines.Pairing.{Pairing}

abbrev pub pairing_after_word : Pairing → Option Conditional → Pairing
pairing_after_word pairing (Some If) = record {
  above = pairing.above + 1;
  depth = pairing.depth + 1;
  outermost = if pairing.depth == 0 then pairing.above else pairing.outermost;
}
pairing_after_word pairing (Some EndIf) =
    record { above = pairing.above + 1; depth = pairing.depth - 1; outermost = pairing.outermost }
pairing_after_word pairing word =
    record { above = pairing.above + 1; depth = pairing.depth; outermost = pairing.outermost }

-- whether the line with so many lines above it is the one that is told
abbrev pub is_found_line : Option ℕ → ℕ → Bool
is_found_line None above = false
is_found_line (Some found) above = found == above
