-- DAA by the bits of its correction: computed for each A with each N, C and H, since F says no more to it.
use Rattle.pac_cpu_vectors.proofs.Common.{Adjusted, Bool, EachDaaIsByBits, Flags, List, adjusted_by_bits, adjusted_half_carry, adjusted_of}
use Rattle.pac_cpu_vectors.proofs.Common.{ap, corrects_high, decimal_of, false, flags_of, get_or, get_or-tabulate, refl, sym, tabulate}
use Rattle.pac_cpu_vectors.proofs.Common.{true, with_adjusted, ℕ, ◌<◌, ◌∙◌, ◌≡◌}

-- what the definition of DAA comes to
abbrev adjusted_as_defined : ℕ → Flags → Adjusted
adjusted_as_defined a before =
    record { value = adjusted_of a before; half_carry = adjusted_half_carry a before; carry = corrects_high a before }

abbrev flags_with : Bool → Bool → Bool → Bool → Bool → Bool → Flags
flags_with s z h p n c = record { sign = s; zero = z; half_carry = h; parity_overflow = p; subtract = n; carry = c }

computed : (s z h p n c : Bool)
    → tabulate 256 (λ a. adjusted_as_defined a (flags_with s z h p n c)) ≡ tabulate 256 (λ a. adjusted_by_bits a (flags_with s z h p n c))
unfolding tabulate
computed s z false p false false = refl
computed s z false p false true = refl
computed s z false p true false = refl
computed s z false p true true = refl
computed s z true p false false = refl
computed s z true p false true = refl
computed s z true p true false = refl
computed s z true p true true = refl

at-each : (a : ℕ) → a < 256 → (s z h p n c : Bool)
    → adjusted_as_defined a (flags_with s z h p n c) ≡ adjusted_by_bits a (flags_with s z h p n c)
at-each a below s z h p n c =
    let none : Adjusted = record { value = 0; half_carry = false; carry = false } in
    sym (get_or-tabulate 256 (λ a. adjusted_as_defined a (flags_with s z h p n c)) a none below)
    ∙ ap (λ (list : List Adjusted). get_or list a none) (computed s z h p n c)
    ∙ get_or-tabulate 256 (λ a. adjusted_by_bits a (flags_with s z h p n c)) a none below

pub daa-by-bits : EachDaaIsByBits
unfolding decimal_of
daa-by-bits a f below =
    let before = flags_of f in
    ap (with_adjusted f)
    (at-each a below before.sign before.zero before.half_carry before.parity_overflow before.subtract before.carry)
