-- Law: DAA, once by the lines of the table that UM0080 prints (DAA), and once for each A and F by the bits of its correction.
use Rattle.std.specs.Prelude.{◌≡◌, ℕ, zero, suc, ◌+◌, ◌-◌, ◌*◌, ◌/◌, ◌%◌, ◌<◌, Bool, true, ◌==◌, ◌&&◌, ◌||◌, not, nat_le, bit_xor}
use Rattle.std.specs.Prelude.{if◌then◌else◌}
use Rattle.pac_num.specs.Numbers.{bit, has_even_parity}
use Rattle.pac_alu.specs.declared.bytes.ByteResult.{ByteResult}
use Rattle.pac_alu.specs.declared.flag_byte.Flags.{Flags}
use Rattle.pac_alu.specs.Flags.{flags_of, flag_byte_of, is_negative}
use Rattle.pac_alu.specs.Arithmetic.{decimal_of}

-- a line of the table: N, C and H before; the first and the last high digit of A, and the first and the last low one; the number that
-- is added to A; and C after
pub record DaaLine : Type 0 where
  pub n : ℕ
  pub c : ℕ
  pub h : ℕ
  pub high_from : ℕ
  pub high_to : ℕ
  pub low_from : ℕ
  pub low_to : ℕ
  pub added : ℕ
  pub carry : ℕ

abbrev pub daa_line : (n c h high_from high_to low_from low_to added carry : ℕ) → DaaLine
daa_line n c h high_from high_to low_from low_to added carry = record {
  n = n;
  c = c;
  h = h;
  high_from = high_from;
  high_to = high_to;
  low_from = low_from;
  low_to = low_to;
  added = added;
  carry = carry;
}

-- whether a line speaks of an A
abbrev pub speaks_of : DaaLine → ℕ → Bool
speaks_of line a =
    nat_le line.high_from (a / 16) && nat_le (a / 16) line.high_to && nat_le line.low_from (a % 16) && nat_le (a % 16) line.low_to

-- F before, with N, C and H alone
abbrev pub flags_before : DaaLine → ℕ
flags_before line = 16 * line.h + 2 * line.n + line.c

-- whether DAA makes of an A what a line says, where it speaks of it
abbrev pub is_as_printed : DaaLine → ℕ → Bool
is_as_printed line a =
    let after = decimal_of a (flags_before line) in
    not (speaks_of line a) || (after.value == (a + line.added) % 256 && after.f % 2 == line.carry)

-- whether each number below a limit passes
abbrev pub passes_below : ℕ → (ℕ → Bool) → Bool
passes_below zero test = true
passes_below (suc n) test = test n && passes_below n test

-- the corrections, by the flags before: 6 for the low digit, where it is above 9 or H is set; 60H for the high one, where A is above 99H
-- or C is set
abbrev pub low_correction : ℕ → Flags → ℕ
low_correction a before = if nat_le 10 (a % 16) || before.half_carry then 6 else 0

abbrev pub high_correction : ℕ → Flags → ℕ
high_correction a before = if nat_le 0x9A a || before.carry then 0x60 else 0

-- A corrected: where N is set, the corrections are taken off, and added where it isn't
abbrev pub corrected : ℕ → Flags → ℕ
corrected a before =
    if before.subtract
    then (512 + a - (low_correction a before + high_correction a before)) % 256
    else (a + low_correction a before + high_correction a before) % 256

-- what DAA comes to: A, H and C
pub record Adjusted : Type 0 where
  pub value : ℕ
  pub half_carry : Bool
  pub carry : Bool

-- by the bits of the corrections: a carry or a borrow from digit to digit flips bit 4, and that is H; C is set where the high digit was
-- corrected
abbrev pub adjusted_by_bits : ℕ → Flags → Adjusted
adjusted_by_bits a before = record {
  value = corrected a before;
  half_carry = bit (bit_xor a (bit_xor (low_correction a before) (corrected a before))) 4 == 1;
  carry = high_correction a before == 0x60;
}

-- A and F by this: S, Z and P/V tell of A, N stays, and so do bits 5 and 3
abbrev pub with_adjusted : ℕ → Adjusted → ByteResult
with_adjusted f adjusted = record {
  value = adjusted.value;
  f = flag_byte_of (record (flags_of f) {
    sign = is_negative adjusted.value;
    zero = adjusted.value == 0;
    half_carry = adjusted.half_carry;
    parity_overflow = has_even_parity adjusted.value;
    carry = adjusted.carry;
  }) f;
}

-- so it is with each A and each F
abbrev pub EachDaaIsByBits : Type 0
EachDaaIsByBits = (a f : ℕ) → a < 256 → decimal_of a f ≡ with_adjusted f (adjusted_by_bits a (flags_of f))
