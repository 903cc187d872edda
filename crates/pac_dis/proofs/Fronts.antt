-- The instruction at the front of some bytes, found in their first four.
use Rattle.pac_dis.proofs.Common.{Begins, Instruction, List, None, Some, ap, arith, code, common_steps, decoded_instruction, first_four}
use Rattle.pac_dis.proofs.Common.{fitting_instruction, front_instruction, length, length-take, option_and_then, rules, sym}
use Rattle.pac_dis.proofs.Common.{take, ℕ, ◌<◌, ◌∙◌, ◌≡◌, ◌≤◌}

-- a front of the bytes that is no longer than four is one of the four
take-first_four : (n : ℕ) (bytes : List ℕ) → n ≤ 4 → n ≤ length bytes → take n (first_four bytes) ≡ take n bytes
take-first_four n bytes most within = grind (arith, common_steps)

-- a code that bytes begin with lies within them
pub begins-within : (prefix bytes : List ℕ) → Begins prefix bytes → length prefix ≤ length bytes
begins-within prefix bytes begins = omega (arith, sym (ap length begins), length-take (length prefix) bytes)

pub begins-first_four : (prefix bytes : List ℕ) → length prefix ≤ 4 → Begins prefix bytes → Begins prefix (first_four bytes)
begins-first_four prefix bytes most begins =
    take-first_four (length prefix) bytes most (begins-within prefix bytes begins) ∙ begins

pub first_four-begins : (prefix bytes : List ℕ) → length prefix ≤ 4 → length prefix ≤ length bytes →
    Begins prefix (first_four bytes) → Begins prefix bytes
first_four-begins prefix bytes most within begins = sym (take-first_four (length prefix) bytes most within) ∙ begins

-- ---- by what the four bytes hold

pub front-found : (bytes : List ℕ) (i : Instruction) → decoded_instruction (first_four bytes) ≡ Some i → length (code i) ≤ length bytes →
    Some i ≡ front_instruction bytes
unfolding front_instruction
front-found bytes i is within = search rules

pub front-cut : (bytes : List ℕ) (i : Instruction) → decoded_instruction (first_four bytes) ≡ Some i → length bytes < length (code i) →
    None ≡ front_instruction bytes
unfolding front_instruction
front-cut bytes i is beyond = search rules

pub front-none : (bytes : List ℕ) → decoded_instruction (first_four bytes) ≡ None → None ≡ front_instruction bytes
unfolding front_instruction
front-none bytes is = sym (ap (option_and_then (fitting_instruction (length bytes))) is)
