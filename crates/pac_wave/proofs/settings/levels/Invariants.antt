-- The places so far have their levels.
use Rattle.std.proofs.Common.{◌≡◌, ◌+◌, ◌%◌, ◌<◌, ℕ, length, pos, slice_index, slice_index_or}
use Rattle.pac_wave.specs.Settings.{IsScaledLevel, scaled_sample}

abbrev pub invariant-loop-place : Rattle.pac_wave.proofs.settings.levels.Given.invariant-loop-place
invariant-loop-place l = record {
  long : length l.levels ≡ 32;
  filled : (n : ℕ) → n < l.place → slice_index_or l.levels n (pos 0) ≡ scaled_sample (slice_index l.prom (l.start + n) % 16) l.volume;
  within : (n : ℕ) → n < l.place → IsScaledLevel (slice_index_or l.levels n (pos 0));
}
