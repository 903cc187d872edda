-- For proofs: what proofs say of the definitions of Unclosed.antt.
use Rattle.std.specs.Prelude.{List, ℕ, Option, [], None, Some, option_map, ◌+◌, ◌∷◌, if◌then◌else◌}
use Rattle.pac_asm.specs.Unclosed.{is_never_closed, conditional_of_line}

-- how many lines stand above the first IF that is never closed, if there is one
abbrev pub first_unclosed : List (List ℕ) → Option ℕ
first_unclosed [] = None
first_unclosed (line ∷ below) =
    if is_never_closed (conditional_of_line line) below then Some 0 else option_map (λ above. above + 1) (first_unclosed below)
