-- Believed: bits, bytes and words as whole numbers. Words are stored low byte first (UM0080, "Z80 CPU Register
-- Configuration"); signed bytes are two's complement.
use Rattle.std.specs.Prelude.{ℕ, ℤ, pos, negsuc, Bool, ◌+◌, ◌-◌, ◌*◌, ◌/◌, ◌%◌, ◌^◌, ◌==◌, nat_lt, if◌then◌else◌, count_ones}

-- bit k of a number; bit 0 is the lowest
abbrev pub bit : ℕ → ℕ → ℕ
bit n k = n / 2 ^ k % 2

-- the low and the high byte of a word, and the word that two bytes make
abbrev pub low_byte : ℕ → ℕ
low_byte value = value % 256

abbrev pub high_byte : ℕ → ℕ
high_byte value = value / 256

abbrev pub word : ℕ → ℕ → ℕ
word low high = low + 256 * high

-- a sum of addresses, as sixteen bits hold it
abbrev pub wrapped_address : ℕ → ℕ
wrapped_address n = n % 65536

-- the address a signed byte away from another, as IX+d and the target of JR e are; the sum wraps at 65,536 (UM0080,
-- "Z80 Addressing Modes": relative and indexed addressing)
abbrev pub displaced_address : ℕ → ℤ → ℕ
displaced_address base (pos d) = wrapped_address (base + d)
displaced_address base (negsuc d) = wrapped_address (base + 65535 - d)

-- a byte as a signed number, from -128 to 127, and the byte of such a number
abbrev pub signed_of_byte : ℕ → ℤ
signed_of_byte byte = if nat_lt byte 128 then pos byte else negsuc (255 - byte)

abbrev pub byte_of_signed : ℤ → ℕ
byte_of_signed (pos n) = n
byte_of_signed (negsuc n) = 255 - n

-- an even count of ones, as the parity flag tells it
abbrev pub has_even_parity : ℕ → Bool
has_even_parity byte = count_ones byte % 2 == 0
