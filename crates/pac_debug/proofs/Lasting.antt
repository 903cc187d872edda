-- The last ones of a list, written one after another.
use Rattle.pac_debug.proofs.Common.{List, Setting, Some, arith, drop, get_or, get_or-drop, get_or_from_slice_get, length, length-drop}
use Rattle.pac_debug.proofs.Common.{length-set, past_steps, set, slice_get, slice_get_within, take, take_more, take_more_set, told_at, ℕ}
use Rattle.pac_debug.proofs.Common.{◌+◌, ◌-◌, ◌<◌, ◌∙◌, ◌≡◌, ◌≤◌}

pub one-more : {X : Type 0} (written all : List X) (first i : ℕ) (x : X) → i < length written → slice_get all (first + i) ≡ Some x
    → take i written ≡ take i (drop first all) → take (i + 1) (set written i x) ≡ take (i + 1) (drop first all)
one-more written all first i x room is front =
    let inside : first + i < length all = slice_get_within all (first + i) x is in
    let here : get_or (drop first all) i x ≡ x = get_or-drop first all i x ∙ get_or_from_slice_get all (first + i) x x is in
    let within : i < length (drop first all) = omega (arith, inside, length-drop first all) in grind (arith, take_more, take_more_set)

pub told-few : (setting : Setting) (index : ℕ) → length (told_at setting index) ≤ 256
told-few setting index = omega (arith, length-drop (length (past_steps setting index) - 256) (past_steps setting index))

pub ruleset more_lasting = (length-set, one-more, told-few)
