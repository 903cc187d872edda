-- Believed: the flags of instructions that move values (UM0080, "8-Bit Load Group", "Exchange, Block Transfer, and Search
-- Group" and "Input and Output Group"). A count is the value after the instruction's decrement.
use Rattle.std.specs.Prelude.{ℕ, Bool, true, false, not, ◌==◌}
use Rattle.pac_alu.specs.Arithmetic.{difference_flags}
use Rattle.pac_alu.specs.Flags.{flags_of, flag_byte_of, is_negative, parity_flags_of}

-- IN r,(C): S, Z and P of the byte, H and N clear, C stays
unfoldable pub input_flags_of : ℕ → ℕ → ℕ
input_flags_of byte f = flag_byte_of (parity_flags_of byte false (flags_of f).carry) f

-- LD A,I and LD A,R: S and Z of A, P/V shows IFF2, H and N clear, C stays
unfoldable pub control_load_flags_of : ℕ → Bool → ℕ → ℕ
control_load_flags_of a iff2 f = flag_byte_of (record (flags_of f) {
  sign = is_negative a;
  zero = a == 0;
  half_carry = false;
  parity_overflow = iff2;
  subtract = false;
}) f

-- LDI and LDD: P/V where BC isn't 0, H and N clear; S, Z and C stay
unfoldable pub copy_flags_of : ℕ → ℕ → ℕ
copy_flags_of count f =
    flag_byte_of (record (flags_of f) { half_carry = false; parity_overflow = not (count == 0); subtract = false }) f

-- CPI and CPD: S, Z, H and N as by SUB of the byte in memory from A, P/V where BC isn't 0; C stays
unfoldable pub search_flags_of : ℕ → ℕ → ℕ → ℕ → ℕ
search_flags_of a byte count f =
    flag_byte_of (record (difference_flags a byte 0) { parity_overflow = not (count == 0); carry = (flags_of f).carry }) f

-- INI, IND, OUTI and OUTD: Z where B is 0, N set; C stays, and UM0080 calls S, H and P/V unknown: in this
-- profile they stay
unfoldable pub port_flags_of : ℕ → ℕ → ℕ
port_flags_of count f = flag_byte_of (record (flags_of f) { zero = count == 0; subtract = true }) f
