-- Believed: what the board keeps beside its ROMs, as plain data (Namco Pac-Man service schematics; what this profile adds
-- is named): the view. Whatever the board answers is a function of its ROMs, of its view, and of the wave generator's
-- accumulators and the picture, which the crates above join.
use Rattle.std.specs.Prelude.{ℕ, ◌%◌, ◌-◌, ◌≤◌, ◌≡◌, ◌==◌, Bool, ◌||◌, nat_le, if◌then◌else◌}
use Rattle.std.specs.Prelude.{List, length, drop, slice_index}
use Rattle.std.specs.Int.RustNames.{bit_and, bit_or}
use Rattle.pac_latch.specs.Latched as latch
use Rattle.pac_latch.specs.Latched.{Latched, watchdog_limit}
use Rattle.pac_map.specs.Place.{ram_size, coordinates_size, registers_size}
use Rattle.pac_map.specs.Cleared.{zero_ram}

-- the bytes of work RAM, at its end, that are the sprites' attributes
abbrev pub attributes_size : ℕ
attributes_size = 16

pub record View : Type 0 where
  -- the byte that the DIP switches give
  pub switches : ℕ
  -- the mask of the inputs held
  pub held : ℕ
  -- the three RAMs
  pub tile : List ℕ
  pub colour : List ℕ
  pub work : List ℕ
  -- the sprites' coordinates and the wave generator's registers
  pub coordinates : List ℕ
  pub registers : List ℕ
  -- the output latch, the interrupt vector and request, and the watchdog's count
  pub latched : Latched

-- at power-on all is 0, and nothing is held (this profile)
abbrev pub power_on_view : ℕ → View
power_on_view switches = record {
  switches = switches;
  held = 0;
  tile = zero_ram ram_size;
  colour = zero_ram ram_size;
  work = zero_ram ram_size;
  coordinates = zero_ram coordinates_size;
  registers = zero_ram registers_size;
  latched = latch.power_on_latched;
}

-- the sprites' attributes
abbrev pub sprite_attributes : View → List ℕ
sprite_attributes view = drop (ram_size - attributes_size) view.work

-- Whether the wave generator keeps what is written to a register. Of the first sixteen only three are kept, the
-- numbers of the waveforms; the others would set the accumulators, which this profile leaves to the samples.
abbrev pub is_kept : ℕ → Bool
is_kept register = nat_le 0x10 register || register == 0x05 || register == 0x0A || register == 0x0F

-- what a register holds of a byte: its low four bits, or 0 where it keeps nothing
abbrev pub kept_nibble : ℕ → ℕ → ℕ
kept_nibble register byte = if is_kept register then byte % 16 else 0

-- the mask with more inputs held, and with these let go
abbrev pub held_with : ℕ → ℕ → ℕ
held_with held more = bit_or held more

abbrev pub held_without : ℕ → ℕ → ℕ
held_without held fewer = bit_and held (0xFFFF - fewer)

-- each register of these holds what it can
abbrev pub HoldWhatTheyCan : List ℕ → Type 0
HoldWhatTheyCan registers = (register : ℕ) → kept_nibble register (slice_index registers register) ≡ slice_index registers register

-- a view that a board can have: all parts have their sizes, registers hold what they can, and the watchdog's count is in
-- its range
pub record IsWellFormed (view : View) : Type 0 where
  pub tile : length view.tile ≡ ram_size
  pub colour : length view.colour ≡ ram_size
  pub work : length view.work ≡ ram_size
  pub coordinates : length view.coordinates ≡ coordinates_size
  pub registers : length view.registers ≡ registers_size
  pub nibbles : HoldWhatTheyCan view.registers
  pub count : view.latched.count ≤ watchdog_limit
