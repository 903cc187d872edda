-- A hasher that takes bytes in two parts has taken them all.
use Rattle.pac_asm_program.proofs.Common.{DefaultHasher, List, [], fold-append, refl, write, write_byte, ℕ, ◌++◌, ◌≡◌}

pub both_written : (hasher : DefaultHasher) (first second : List ℕ) → write hasher (first ++ second) ≡ write (write hasher first) second
unfolding write
both_written hasher first second = fold-append write_byte hasher first second

pub nothing_written : (hasher : DefaultHasher) → write hasher [] ≡ hasher
unfolding write
nothing_written hasher = refl
