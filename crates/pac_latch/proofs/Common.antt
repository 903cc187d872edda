-- The words that proofs here, and those of crates above, import of definitions, of std and of the crates below.

pub use Rattle.pac_latch.specs.Latched.{Bits, Latched, binary_digit, binary_number, bits_of, byte_of_latch, is_latch_bit_set, latch_bits}
pub use Rattle.pac_latch.specs.Latched.{latch_of_bits, latch_place, latched_after_accept, latched_after_bit, latched_after_blank}
pub use Rattle.pac_latch.specs.Latched.{latched_after_kick, latched_after_reset, latched_after_vector, watchdog_limit}
pub use Rattle.pac_num.specs.Numbers.{bit}
pub use Rattle.std.proofs.Common.{Bool, List, [], ap, arith, false, get_or, get_or-set_other, get_or-set_same, length, refl, set, suc, sym}
pub use Rattle.std.proofs.Common.{true, zero, ℕ, ◌%◌, ◌*◌, ◌+◌, ◌/◌, ◌<◌, ◌==◌, ◌^◌, ◌∙◌, ◌∷◌, ◌≡◌, ◌≢◌}
pub use Rattle.std.proofs.Math.ListN.{length-set}
pub use Rattle.std.proofs.Math.Nat.{div-div-eq-div-mul, zero-div}
pub use Rattle.std.proofs.lemmas.Grind.{common_steps}
pub use Rattle.std.proofs.lemmas.List.{ext_get_or}
