-- For proofs: so many samples one after another, while the registers and whether sound is on stay as they are.
use Rattle.std.specs.Prelude.{ℕ, ℤ, zero, suc, Bool, List, [], ◌∷◌, ◌++◌}
use Rattle.pac_wave.specs.Wave.{Accumulators, accumulator, accumulators_after, sound_sample}

-- where the voices stand after so many samples
abbrev pub accumulators_after_many : List ℕ → Bool → Accumulators → ℕ → Accumulators
accumulators_after_many registers on all zero = all
accumulators_after_many registers on all (suc count) = accumulators_after registers on (accumulators_after_many registers on all count)

-- these samples, the first one first
abbrev pub sound_samples : (prom registers : List ℕ) → Bool → Accumulators → ℕ → List ℤ
sound_samples prom registers on all zero = []
sound_samples prom registers on all (suc count) =
    sound_samples prom registers on all count
    ++ sound_sample prom registers (accumulator (accumulators_after_many registers on all count)) on ∷ []
