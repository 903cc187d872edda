-- For proofs: what of the memory is heard, and the writes that may change that.
use Rattle.std.specs.Prelude.{ℕ, List, Bool, true, false}
use Rattle.pac_bus.specs.Action.{Action, Write as Written, Output}
use Rattle.pac_map.specs.declared.bus_table.BusPlace.{BusPlace}
use Rattle.pac_map.specs.declared.bus_table.BusPlace.TheVariants.{Latch, Wave}
use Rattle.pac_map.specs.Place.{write_place}
use Rattle.pac_map.specs.View.{View}

-- what a sample asks of the memory: the wave generator's registers, and whether sound is on
pub record SoundSettings : Type 0 where
  pub registers : List ℕ
  pub on : Bool

abbrev pub sound_settings : View → SoundSettings
sound_settings view = record { registers = view.registers; on = view.latched.bits.sound_enable }

-- whether a place is a register of the wave generator, or a bit of the latch
abbrev pub is_of_sound : BusPlace → Bool
is_of_sound (Latch bit) = true
is_of_sound (Wave register) = true
is_of_sound place = false

-- whether an action of the processor writes to such a place, through any mirror of it
abbrev pub touches_sound : Action → Bool
touches_sound (Written address byte) = is_of_sound (write_place address)
touches_sound (Output port byte) = false
