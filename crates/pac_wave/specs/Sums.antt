-- Law: where the accumulators stand after many samples (Namco Pac-Man service schematics), a law over Wave.antt.
use Rattle.std.specs.Prelude.{◌≡◌, ℕ, ◌+◌, ◌%◌, Bool, List, fold, filter}
use Rattle.std.specs.List.{sum_by}
use Rattle.pac_wave.specs.declared.Voice.{Voice}
use Rattle.pac_wave.specs.Wave.{Accumulators, Fit20Bits, accumulator_range, accumulator, frequency, accumulators_after}

-- the registers at a sample, and whether sound was on
pub record Tick : Type 0 where
  pub registers : List ℕ
  pub on : Bool

-- the accumulators after the samples of a list, the first one first
abbrev pub accumulators_after_ticks : Accumulators → List Tick → Accumulators
accumulators_after_ticks = fold (λ all tick. accumulators_after tick.registers tick.on all)

-- a voice's frequencies at all samples at which sound was on, added up
abbrev pub frequency_sum : Voice → List Tick → ℕ
frequency_sum voice ticks = sum_by (λ tick. frequency tick.registers voice) (filter (λ tick. tick.on) ticks)

-- an accumulator is where it started and all frequencies since, in 20 bits
abbrev pub AccumulatorsAreSums : Type 0
AccumulatorsAreSums =
    (start : Accumulators) (ticks : List Tick) (voice : Voice) → Fit20Bits start
    → accumulator (accumulators_after_ticks start ticks) voice ≡ (accumulator start voice + frequency_sum voice ticks) % accumulator_range
