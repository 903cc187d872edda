-- What is known of a file that was looked at.
use Rattle.pac_state.proofs.Common.{Bool, List, LoadFault, None, Option, Some, arith, eqb-true, file_size, if◌then◌else◌, length}
use Rattle.pac_state.proofs.Common.{load_fault, not, rules, true, ℕ, ◌≡◌}

-- the rest of a search that finds nothing
pub below : (found : Bool) (fault : LoadFault) (rest : Option LoadFault) → (if found then Some fault else rest) ≡ None → rest ≡ None
below found fault rest none = search rules

pub tested : (holds : Bool) (fault : LoadFault) (rest : Option LoadFault) → (if not holds then Some fault else rest) ≡ None → holds ≡ true
tested holds fault rest none = search rules

-- a file in which nothing is wrong before its fields has its size
pub size-of : (digest bytes : List ℕ) → load_fault digest bytes ≡ None → length bytes ≡ file_size
unfolding load_fault
size-of digest bytes none = grind (arith, below, eqb-true, tested)
