-- Believed: the wave generator (Namco Pac-Man service schematics; the scale of a sample, what happens while sound is off
-- and that the accumulators can't be written are this profile's). It has 32 registers of four bits, those at the addresses from
-- 5040H on, and three voices. Each voice walks through one of eight waveforms of 32 samples, as fast as its frequency tells.
use Rattle.std.specs.Prelude.{ℕ, ℤ, pos, ◌+◌, ◌*◌, ◌/◌, ◌%◌, ◌^◌, ◌<◌, ◌+ℤ◌, ◌-ℤ◌, ◌*ℤ◌, ◌==◌, ◌&&◌, Bool}
use Rattle.std.specs.Prelude.{nat_lt, if◌then◌else◌, List, slice_index}
use Rattle.pac_wave.specs.declared.Voice.{Voice}
use Rattle.pac_wave.specs.declared.Voice.TheVariants.{First, Second, Third}

-- frequencies and accumulators have 20 bits
abbrev pub accumulator_range : ℕ
accumulator_range = 2 ^ 20

-- what a register holds: the low four bits of the byte that was written
abbrev pub register_nibble : List ℕ → ℕ → ℕ
register_nibble registers place = slice_index registers place % 16

-- The voice table. The registers are two RAMs of 16, 00 to 0F and 10 to 1F, and the three voices share both alike: voice v
-- ends at 5 + 5v in each, in the first with its waveform's number and in the second with its volume.
abbrev pub voice_number : Voice → ℕ
voice_number First = 0
voice_number Second = 1
voice_number Third = 2

-- the number of a voice's waveform, three bits
abbrev pub waveform : List ℕ → Voice → ℕ
waveform registers voice = register_nibble registers (0x05 + 5 * voice_number voice) % 8

-- a voice's volume
abbrev pub volume : List ℕ → Voice → ℕ
volume registers voice = register_nibble registers (0x15 + 5 * voice_number voice)

-- a digit of a voice's frequency, four bits, counted from the lowest, 0: they stand before its volume, the highest, 4, next to it.
-- Digit 0 of the second and the third voice isn't there, since the voice before ends in its place: it reads 0.
abbrev pub frequency_digit : List ℕ → Voice → ℕ → ℕ
frequency_digit registers voice k =
    if k == 0 && nat_lt 0 (voice_number voice) then 0 else register_nibble registers (0x10 + 5 * voice_number voice + k)

-- a voice's frequency: 20 bits, by its five digits
abbrev pub frequency : List ℕ → Voice → ℕ
frequency registers voice =
    frequency_digit registers voice 0 + 16 * frequency_digit registers voice 1 + 16 ^ 2 * frequency_digit registers voice 2
    + 16 ^ 3 * frequency_digit registers voice 3 + 16 ^ 4 * frequency_digit registers voice 4

-- where each voice stands in its waveform: 20 bits, of which the top five number a sample
pub record Accumulators : Type 0 where
  pub first : ℕ
  pub second : ℕ
  pub third : ℕ

abbrev pub accumulator : Accumulators → Voice → ℕ
accumulator all First = all.first
accumulator all Second = all.second
accumulator all Third = all.third

-- the accumulators have 20 bits each
pub record Fit20Bits (all : Accumulators) : Type 0 where
  pub first : all.first < accumulator_range
  pub second : all.second < accumulator_range
  pub third : all.third < accumulator_range

-- at power-on all are 0 (this profile)
abbrev pub power_on_accumulators : Accumulators
power_on_accumulators = record { first = 0; second = 0; third = 0 }

-- a sample about its middle, at a volume
abbrev pub amplified_sample : ℕ → ℕ → ℤ
amplified_sample sample loudness = (pos sample -ℤ pos 8) *ℤ pos loudness

-- what a voice puts into the sound: the sample that its accumulator points to in its waveform; the wave PROM has eight
-- waveforms of 32 samples, of four bits each
abbrev pub level : List ℕ → List ℕ → Voice → ℕ → ℤ
level prom registers voice position =
    amplified_sample (slice_index prom (32 * waveform registers voice + position / 32768) % 16) (volume registers voice)

-- three voices together: 64 times their sum
abbrev pub mixed_voices : ℤ → ℤ → ℤ → ℤ
mixed_voices first second third = pos 64 *ℤ ((first +ℤ second) +ℤ third)

-- the sound sample, by where each voice stands: 0 while sound is off
abbrev pub sound_sample : List ℕ → List ℕ → (Voice → ℕ) → Bool → ℤ
sound_sample prom registers at on =
    if on
    then mixed_voices (level prom registers First (at First)) (level prom registers Second (at Second))
    (level prom registers Third (at Third))
    else pos 0

-- an accumulator grows by its voice's frequency, in 20 bits
abbrev pub grown_accumulator : List ℕ → Voice → ℕ → ℕ
grown_accumulator registers voice position = (position + frequency registers voice) % accumulator_range

-- the accumulators after a sample: they stay while sound is off
abbrev pub accumulators_after : List ℕ → Bool → Accumulators → Accumulators
accumulators_after registers on all =
    if on
    then record {
      first = grown_accumulator registers First all.first;
      second = grown_accumulator registers Second all.second;
      third = grown_accumulator registers Third all.third;
    }
    else all
