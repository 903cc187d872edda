-- For proofs: what the code keeps of the wave PROM and the registers, and the range of what a voice puts into the sound.
use Rattle.std.specs.Prelude.{◌≡◌, ◌<◌, ℕ, ℤ, pos, negsuc, ◌+◌, ◌*◌, ◌%◌, ◌*ℤ◌, ◌≤ℤ◌, List, slice_index, slice_index_or}
use Rattle.pac_wave.specs.declared.Voice.{Voice}
use Rattle.pac_wave.specs.declared.Voice.TheVariants.{First, Second, Third}
use Rattle.pac_wave.specs.declared.settings.Steps.{Steps}
use Rattle.pac_wave.specs.Wave.{waveform, volume, frequency, amplified_sample}

-- what the voices sound by: the wave PROM's bytes, and the registers
pub record SoundSource : Type 0 where
  pub prom : List ℕ
  pub registers : List ℕ

-- a sample about its middle, at a volume, as it's added to the sound: 64 times
abbrev pub scaled_sample : ℕ → ℕ → ℤ
scaled_sample sample loudness = pos 64 *ℤ amplified_sample sample loudness

-- 64 times what the sample at a place of a voice's waveform puts into the sound
unfoldable pub scaled_level : (prom registers : List ℕ) → Voice → ℕ → ℤ
scaled_level prom registers voice place =
    scaled_sample (slice_index prom (32 * waveform registers voice + place) % 16) (volume registers voice)

-- these are told beforehand, for each of the 32 places
unfoldable pub AreLevels : (prom registers : List ℕ) → Voice → List ℤ → Type 0
AreLevels prom registers voice levels =
    (place : ℕ) → place < 32 → slice_index_or levels place (pos 0) ≡ scaled_level prom registers voice place

-- what 4096 times a voice's accumulator grows by
unfoldable pub voice_step : List ℕ → Voice → ℕ
voice_step registers voice = 4096 * frequency registers voice

unfoldable pub steps_of : List ℕ → Steps
steps_of registers = record {
  first = voice_step registers First;
  second = voice_step registers Second;
  third = voice_step registers Third;
}

-- from samples and volumes of four bits: from 64 * -8 * 15 to 64 * 7 * 15
abbrev pub IsScaledLevel : ℤ → Type 0
IsScaledLevel value = (negsuc 7679 ≤ℤ value) × (value ≤ℤ pos 6720)

unfoldable pub AreWithin : List ℤ → Type 0
AreWithin levels = (place : ℕ) → place < 32 → IsScaledLevel (slice_index_or levels place (pos 0))
