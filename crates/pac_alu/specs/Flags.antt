-- Believed: the flag byte F (UM0080, "Z80 Status Indicator Flags"): S is bit 7, Z bit 6, H bit 4, P/V bit 2, N bit 1 and
-- C bit 0. Bits 5 and 3 have no meaning; in this profile no operation here changes them.
use Rattle.std.specs.Prelude.{ℕ, ℤ, pos, negsuc, Bool, not, false, ◌+◌, ◌*◌, ◌/◌, ◌%◌, ◌==◌, ◌||◌, nat_le, int_lt, if◌then◌else◌}
use Rattle.std.specs.Prelude.{[], ◌∷◌, get_or}
use Rattle.pac_alu.specs.declared.flag_byte.Flags.{Flags}
use Rattle.pac_alu.specs.declared.flag_byte.Condition.{Condition}
use Rattle.pac_alu.specs.declared.flag_byte.Condition.TheVariants.{NotZero, Zero, NoCarry, Carry, ParityOdd, ParityEven, Plus, Minus}
use Rattle.pac_num.specs.Numbers.{has_even_parity}

-- the weight of a flag that is set, and 0 for one that is clear
abbrev pub weight_if : ℕ → Bool → ℕ
weight_if weight flag = if flag then weight else 0

-- the flags of a byte F
abbrev pub flags_of : ℕ → Flags
flags_of f = record {
  sign = f / 128 == 1;
  zero = f / 64 % 2 == 1;
  half_carry = f / 16 % 2 == 1;
  parity_overflow = f / 4 % 2 == 1;
  subtract = f / 2 % 2 == 1;
  carry = f % 2 == 1;
}

-- the byte F with these flags, and with bits 5 and 3 of the byte F before
abbrev pub flag_byte_of : Flags → ℕ → ℕ
flag_byte_of flags before =
    weight_if 128 flags.sign + weight_if 64 flags.zero + before / 32 % 2 * 32 + weight_if 16 flags.half_carry
    + before / 8 % 2 * 8 + weight_if 4 flags.parity_overflow + weight_if 2 flags.subtract + weight_if 1 flags.carry

-- S: bit 7 of a byte, or bit 15 of a word
abbrev pub is_negative : ℕ → Bool
is_negative byte = nat_le 128 byte

abbrev pub is_negative_word : ℕ → Bool
is_negative_word word = nat_le 32768 word

-- V: a signed result that a byte, or a word, cannot hold
abbrev pub overflows : ℤ → Bool
overflows value = int_lt value (negsuc 127) || int_lt (pos 127) value

abbrev pub overflows_word : ℤ → Bool
overflows_word value = int_lt value (negsuc 32767) || int_lt (pos 32767) value

-- S, Z and P of a byte, with this H and C, and N clear: what logic, shifts and input leave
abbrev pub parity_flags_of : ℕ → Bool → Bool → Flags
parity_flags_of value half_carry carry = record {
  sign = is_negative value;
  zero = value == 0;
  half_carry = half_carry;
  parity_overflow = has_even_parity value;
  subtract = false;
  carry = carry;
}

-- the condition of a code's field cc, 0 to 7
unfoldable pub field_condition : ℕ → Condition
field_condition field = get_or (NotZero ∷ Zero ∷ NoCarry ∷ Carry ∷ ParityOdd ∷ ParityEven ∷ Plus ∷ []) field Minus

-- whether a condition of a jump, call or return is met (UM0080, "Jump Group")
unfoldable pub is_met : Condition → ℕ → Bool
is_met NotZero f = not (flags_of f).zero
is_met Zero f = (flags_of f).zero
is_met NoCarry f = not (flags_of f).carry
is_met Carry f = (flags_of f).carry
is_met ParityOdd f = not (flags_of f).parity_overflow
is_met ParityEven f = (flags_of f).parity_overflow
is_met Plus f = not (flags_of f).sign
is_met Minus f = (flags_of f).sign
