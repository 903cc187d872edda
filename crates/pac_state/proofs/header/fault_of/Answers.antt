-- The first fault, test by test.
use Rattle.pac_state.proofs.Common.{arith, eqb, eqb_tells, false, load_fault, refl, rules, sym, true, ℕ, ◌≡◌, ◌≢◌, ◌⊎◌}
use Rattle.pac_state.proofs.header.fault_of.Goals as goal

differs : (a b : ℕ) → ((eqb a b ≡ true) × (a ≡ b)) ⊎ ((eqb a b ≡ false) × (a ≢ b)) → a ≢ b → eqb a b ≡ false
differs a b h2 not = search rules

pub returns-then-not-begins : goal.returns-then-not-begins
unfolding load_fault
returns-then-not-begins c = rw (sym c.if-not-begins.ensures) refl

pub returns-then-is_of_another_version : goal.returns-then-is_of_another_version
unfolding load_fault
returns-then-is_of_another_version c = rw (sym c.if-not-begins.ensures, sym c.if-is_of_another_version.ensures) refl

pub returns-then-bytes-ne-FILE_SIZE : goal.returns-then-bytes-ne-FILE_SIZE
unfolding load_fault
returns-then-bytes-ne-FILE_SIZE c = grind (arith, differs, eqb_tells)

pub returns-then-not-is_sealed : goal.returns-then-not-is_sealed
unfolding load_fault
returns-then-not-is_sealed c = search rules

pub returns-then-not-is_of : goal.returns-then-not-is_of
unfolding load_fault
returns-then-not-is_of c = search rules

pub returns-else-not-is_of : goal.returns-else-not-is_of
unfolding load_fault
returns-else-not-is_of c = search rules
