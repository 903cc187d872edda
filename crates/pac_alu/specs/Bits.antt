-- Believed: one bit of a byte (UM0080, "Bit Set, Reset, and Test Group"). The place is the code's field of three bits.
use Rattle.std.specs.Prelude.{ℕ, true, false, ◌+◌, ◌-◌, ◌%◌, ◌^◌, ◌==◌, if◌then◌else◌}
use Rattle.pac_alu.specs.Flags.{flags_of, flag_byte_of}
use Rattle.pac_num.specs.Numbers.{bit}

-- BIT: Z where the bit is 0, H set, N clear; UM0080 calls S and P/V unknown, and in this profile they stay
unfoldable pub bit_test_of : ℕ → ℕ → ℕ → ℕ
bit_test_of byte place f =
    flag_byte_of (record (flags_of f) { zero = bit byte (place % 8) == 0; half_carry = true; subtract = false }) f

-- the weight of the bit at a place
abbrev pub weight_at : ℕ → ℕ
weight_at place = 2 ^ (place % 8)

-- SET: the bit is 1, the others stay
unfoldable pub with_bit : ℕ → ℕ → ℕ
with_bit byte place = if bit byte (place % 8) == 0 then byte + weight_at place else byte

-- RES: the bit is 0, the others stay
unfoldable pub without_bit : ℕ → ℕ → ℕ
without_bit byte place = if bit byte (place % 8) == 0 then byte else byte - weight_at place
