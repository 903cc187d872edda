-- An accumulator as a sum.
use Rattle.std.proofs.Common.{Bool, List, [], arith, false, rules, true, ℕ, ◌%◌, ◌+◌, ◌<◌, ◌^◌, ◌∷◌, ◌≡◌}
use Rattle.std.proofs.lemmas.List.Sums.{sum_by-cons}
use Rattle.pac_wave.specs.declared.Voice.{Voice}
use Rattle.pac_wave.specs.Wave.{Accumulators, Fit20Bits, accumulator, frequency, accumulators_after}
use Rattle.pac_wave.specs.Sums.{Tick, accumulators_after_ticks, frequency_sum, AccumulatorsAreSums}

-- one sample more
grown-sum : (start added rest : ℕ) → ((start + added) % 2 ^ 20 + rest) % 2 ^ 20 ≡ (start + (added + rest)) % 2 ^ 20
grown-sum start added rest = omega arith

after-voice : (registers : List ℕ) (all : Accumulators) (voice : Voice) →
    accumulator (accumulators_after registers true all) voice ≡ (accumulator all voice + frequency registers voice) % 2 ^ 20
after-voice registers all voice = search rules

within : (all : Accumulators) (voice : Voice) → Fit20Bits all → accumulator all voice < 2 ^ 20
within all voice fit = search rules

sums-on : (on : Bool) (registers : List ℕ) (start : Accumulators) (ticks : List Tick) (voice : Voice) →
    ((all : Accumulators) → accumulator all voice < 2 ^ 20 →
    accumulator (accumulators_after_ticks all ticks) voice ≡ (accumulator all voice + frequency_sum voice ticks) % 2 ^ 20) →
    accumulator start voice < 2 ^ 20 →
    accumulator (accumulators_after_ticks (accumulators_after registers on start) ticks) voice
    ≡ (accumulator start voice + frequency_sum voice (record { registers = registers; on = on } ∷ ticks)) % 2 ^ 20
sums-on true registers start ticks voice rest below = search (rules, after-voice, sum_by-cons, grown-sum)
sums-on false registers start ticks voice rest below = rest start below

pub sums : (voice : Voice) (ticks : List Tick) (start : Accumulators) → accumulator start voice < 2 ^ 20 →
    accumulator (accumulators_after_ticks start ticks) voice ≡ (accumulator start voice + frequency_sum voice ticks) % 2 ^ 20
sums voice [] start below = omega (arith, below)
sums voice (tick ∷ ticks) start below = sums-on tick.on tick.registers start ticks voice (λ all. sums voice ticks all) below

pub all-sums : AccumulatorsAreSums
all-sums start ticks voice fit = sums voice ticks start (within start voice fit)
