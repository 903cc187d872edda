-- Believed: what the board keeps beside its memories: the eight bits of the output latch, the interrupt vector, the
-- interrupt request and the watchdog's count (Namco Pac-Man service schematics; that an output to port 0 sets the vector, the
-- order at a blank, and that a count stays at its limit are this profile's).
use Rattle.std.specs.Prelude.{ℕ, ◌+◌, ◌*◌, ◌%◌, ◌==◌, min, Bool, false, not, ◌&&◌, ◌||◌, if◌then◌else◌}
use Rattle.std.specs.Prelude.{List, [], ◌∷◌, slice_index_or, slice_set, Option, Some, None}
use Rattle.pac_num.specs.Numbers.{bit}

-- the count of vertical blanks without a kick at which the watchdog resets the board
abbrev pub watchdog_limit : ℕ
watchdog_limit = 16

-- the output latch
pub record Bits : Type 0 where
  -- a vertical blank asks for an interrupt
  pub interrupt_enable : Bool
  -- the wave generator sounds
  pub sound_enable : Bool
  pub auxiliary : Bool
  -- the picture is flipped
  pub flip : Bool
  pub lamp_1 : Bool
  pub lamp_2 : Bool
  pub coin_lockout : Bool
  pub coin_counter : Bool

-- the latch's bits by their places, from 0 to 7, and the latch that has these bits
abbrev pub latch_bits : Bits → List Bool
latch_bits bits =
    bits.interrupt_enable ∷ bits.sound_enable ∷ bits.auxiliary ∷ bits.flip
    ∷ bits.lamp_1 ∷ bits.lamp_2 ∷ bits.coin_lockout ∷ bits.coin_counter ∷ []

abbrev pub latch_of_bits : List Bool → Bits
latch_of_bits bits = record {
  interrupt_enable = slice_index_or bits 0 false;
  sound_enable = slice_index_or bits 1 false;
  auxiliary = slice_index_or bits 2 false;
  flip = slice_index_or bits 3 false;
  lamp_1 = slice_index_or bits 4 false;
  lamp_2 = slice_index_or bits 5 false;
  coin_lockout = slice_index_or bits 6 false;
  coin_counter = slice_index_or bits 7 false;
}

pub record Latched : Type 0 where
  pub bits : Bits
  pub vector : ℕ
  -- whether the board asks the processor for an interrupt
  pub request : Bool
  -- the blanks since the watchdog was last kicked
  pub count : ℕ

-- at power-on all is 0 (this profile)
abbrev pub power_on_latched : Latched
power_on_latched = record { bits = latch_of_bits []; vector = 0; request = false; count = 0 }

-- the place of a latch bit: an address says it by its lowest three lines alone
abbrev pub latch_place : ℕ → ℕ
latch_place place = place % 8

-- whether a bit of the latch is 1
abbrev pub is_latch_bit_set : Latched → ℕ → Bool
is_latch_bit_set latched place = slice_index_or (latch_bits latched.bits) (latch_place place) false

-- the number that binary digits make, the lowest one first
abbrev pub binary_digit : Bool → ℕ
binary_digit is_set = if is_set then 1 else 0

abbrev pub binary_number : List Bool → ℕ
binary_number [] = 0
binary_number (is_set ∷ more) = binary_digit is_set + 2 * binary_number more

-- the latch as one byte, and the latch of a byte
abbrev pub byte_of_latch : Bits → ℕ
byte_of_latch bits = binary_number (latch_bits bits)

abbrev pub bits_of : ℕ → Bits
bits_of byte = record {
  interrupt_enable = bit byte 0 == 1;
  sound_enable = bit byte 1 == 1;
  auxiliary = bit byte 2 == 1;
  flip = bit byte 3 == 1;
  lamp_1 = bit byte 4 == 1;
  lamp_2 = bit byte 5 == 1;
  coin_lockout = bit byte 6 == 1;
  coin_counter = bit byte 7 == 1;
}

-- what is kept where the latch is this byte
abbrev pub latched_of : (byte vector : ℕ) → Bool → (count : ℕ) → Latched
latched_of byte vector request count = record { bits = bits_of byte; vector = vector; request = request; count = count }

-- the vector, where a request stands
abbrev pub interrupt_request : Latched → Option ℕ
interrupt_request latched = if latched.request then Some latched.vector else None

-- whether a bit that is written takes the request back: a 0 in interrupt enable does
abbrev pub withdraws : ℕ → Bool → Bool
withdraws place is_set = latch_place place == 0 && not is_set

-- after a bit of the latch is written
abbrev pub latched_after_bit : Latched → ℕ → Bool → Latched
latched_after_bit latched place is_set =
    record latched {
      bits = latch_of_bits (slice_set (latch_bits latched.bits) (latch_place place) is_set);
      request = latched.request && not (withdraws place is_set);
    }

-- after the vector is set
abbrev pub latched_after_vector : Latched → ℕ → Latched
latched_after_vector latched byte = record latched { vector = byte }

-- after the watchdog is kicked
abbrev pub latched_after_kick : Latched → Latched
latched_after_kick latched = record latched { count = 0 }

-- after the processor has accepted the interrupt
abbrev pub latched_after_accept : Latched → Latched
latched_after_accept latched = record latched { request = false }

-- after a reset of the board: only the vector stays
abbrev pub latched_after_reset : Latched → Latched
latched_after_reset latched = record power_on_latched { vector = latched.vector }

-- after a vertical blank: it asks for an interrupt where interrupts are enabled, and the watchdog counts it, up to
-- its limit
abbrev pub latched_after_blank : Latched → Latched
latched_after_blank latched =
    record latched {
      request = latched.request || latched.bits.interrupt_enable;
      count = min watchdog_limit (latched.count + 1);
    }

-- whether the watchdog resets the board now
abbrev pub is_watchdog_due : Latched → Bool
is_watchdog_due latched = latched.count == watchdog_limit
