-- Believed: rotations and shifts (UM0080, "Rotate and Shift Group").
use Rattle.std.specs.Prelude.{ℕ, false, ◌+◌, ◌*◌, ◌/◌, ◌%◌, ◌==◌, [], ◌∷◌, get_or}
use Rattle.pac_alu.specs.declared.bytes.ByteResult.{ByteResult}
use Rattle.pac_alu.specs.declared.shifts.Digits.{Digits}
use Rattle.pac_alu.specs.declared.shifts.Shift.{Shift}
use Rattle.pac_alu.specs.declared.shifts.Shift.TheVariants.{Rlc, Rrc, Rl, Rr, Sla, Sra, Srl}
use Rattle.pac_alu.specs.Flags.{flags_of, flag_byte_of, parity_flags_of}

-- the shift of a code's field, 0 to 5 and 7; no documented code has 6
unfoldable pub field_shift : ℕ → Shift
field_shift field = get_or (Rlc ∷ Rrc ∷ Rl ∷ Rr ∷ Sla ∷ Sra ∷ []) field Srl

-- the byte one place to the left or the right. What comes in: at RLC and RRC the bit that leaves, at RL and RR
-- the carry, at SLA and SRL 0, at SRA the bit 7 that was there
abbrev pub shifted_of : Shift → ℕ → ℕ → ℕ
shifted_of Rlc byte carry = byte * 2 % 256 + byte / 128
shifted_of Rrc byte carry = byte / 2 + byte % 2 * 128
shifted_of Rl byte carry = byte * 2 % 256 + carry
shifted_of Rr byte carry = byte / 2 + carry * 128
shifted_of Sla byte carry = byte * 2 % 256
shifted_of Sra byte carry = byte / 2 + byte / 128 * 128
shifted_of Srl byte carry = byte / 2

-- the bit that leaves, bit 7 to the left and bit 0 to the right
abbrev pub leaving_bit : Shift → ℕ → ℕ
leaving_bit Rlc byte = byte / 128
leaving_bit Rl byte = byte / 128
leaving_bit Sla byte = byte / 128
leaving_bit _ byte = byte % 2

-- RLC, RRC, RL, RR, SLA, SRA and SRL: S, Z and P of the value, H and N clear, C the bit that leaves
unfoldable pub shift_of : Shift → ℕ → ℕ → ByteResult
shift_of shift byte f = let value = shifted_of shift byte (f % 2) in record {
  value = value;
  f = flag_byte_of (parity_flags_of value false (leaving_bit shift byte == 1)) f;
}

-- RLCA, RRCA, RLA and RRA: A as by the shift of that name; H and N clear, C the bit that leaves; S, Z and P/V stay
unfoldable pub accumulator_rotation_of : Shift → ℕ → ℕ → ByteResult
accumulator_rotation_of shift a f = record {
  value = shifted_of shift a (f % 2);
  f = flag_byte_of (record (flags_of f) { half_carry = false; subtract = false; carry = leaving_bit shift a == 1 }) f;
}

-- RLD: the low digit in memory goes to the high one, that to the low digit of A, and that to the low one in
-- memory; S, Z and P of A, H and N clear, C stays
unfoldable pub left_digits_of : ℕ → ℕ → ℕ → Digits
left_digits_of a memory f = let value = a / 16 * 16 + memory / 16 in record {
  a = value;
  memory = memory % 16 * 16 + a % 16;
  f = flag_byte_of (parity_flags_of value false (flags_of f).carry) f;
}

-- RRD: the other way round
unfoldable pub right_digits_of : ℕ → ℕ → ℕ → Digits
right_digits_of a memory f = let value = a / 16 * 16 + memory % 16 in record {
  a = value;
  memory = a % 16 * 16 + memory / 16;
  f = flag_byte_of (parity_flags_of value false (flags_of f).carry) f;
}
