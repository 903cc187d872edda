-- Believed: operations on words (UM0080, "16-Bit Arithmetic Group"). C: the whole sum is above 65,535, or the whole
-- difference below 0. H: the same of the low twelve bits, a carry or borrow of bit 11. V: the signed result is outside -32,768
-- to 32,767. A carry taken in is 0 or 1.
use Rattle.std.specs.Prelude.{ℕ, ℤ, pos, negsuc, true, false, ◌+◌, ◌-◌, ◌%◌, ◌==◌, nat_lt, ◌+ℤ◌, ◌-ℤ◌, if◌then◌else◌}
use Rattle.pac_alu.specs.declared.words.WordOutcome.{WordOutcome}
use Rattle.pac_alu.specs.Flags.{flags_of, flag_byte_of, is_negative_word, overflows_word}

-- a word as a signed number
abbrev pub signed_word : ℕ → ℤ
signed_word word = if nat_lt word 32768 then pos word else negsuc (65535 - word)

-- ADD HL,ss and ADD IX,pp: S, Z and P/V stay
unfoldable pub word_sum_of : ℕ → ℕ → ℕ → WordOutcome
word_sum_of left right f = record {
  value = (left + right) % 65536;
  f = flag_byte_of (record (flags_of f) {
    half_carry = nat_lt 4095 (left % 4096 + right % 4096);
    subtract = false;
    carry = nat_lt 65535 (left + right);
  }) f;
}

-- ADC HL,ss
unfoldable pub word_sum_with_carry_of : ℕ → ℕ → ℕ → WordOutcome
word_sum_with_carry_of left right f = let carry = f % 2 in let value = (left + right + carry) % 65536 in record {
  value = value;
  f = flag_byte_of (record {
    sign = is_negative_word value;
    zero = value == 0;
    half_carry = nat_lt 4095 (left % 4096 + right % 4096 + carry);
    parity_overflow = overflows_word ((signed_word left +ℤ signed_word right) +ℤ pos carry);
    subtract = false;
    carry = nat_lt 65535 (left + right + carry);
  }) f;
}

-- SBC HL,ss
unfoldable pub word_difference_with_carry_of : ℕ → ℕ → ℕ → WordOutcome
word_difference_with_carry_of left right f = let carry = f % 2 in let value = (65536 + left - (right + carry)) % 65536 in record {
  value = value;
  f = flag_byte_of (record {
    sign = is_negative_word value;
    zero = value == 0;
    half_carry = nat_lt (left % 4096) (right % 4096 + carry);
    parity_overflow = overflows_word ((signed_word left -ℤ signed_word right) -ℤ pos carry);
    subtract = true;
    carry = nat_lt left (right + carry);
  }) f;
}

-- INC and DEC of a pair, which leave F
abbrev pub word_increment_of : ℕ → ℕ
word_increment_of word = (word + 1) % 65536

abbrev pub word_decrement_of : ℕ → ℕ
word_decrement_of word = (word + 65535) % 65536
