-- The samples so far are those of as many moments, and what follows is as it was.
use Rattle.std.proofs.Common.{◌≡◌, ◌++◌, drop, true}
use Rattle.pac_wave.specs.Batch.{accumulators_after_many, sound_samples}

abbrev pub invariant-loop-sample : Rattle.pac_wave.proofs.positions.Positions.fill.Given.invariant-loop-sample
invariant-loop-sample l = record {
  samples : l.samples
      ≡ sound_samples l.settings.prom l.settings.registers true l.initial.now l.sample-index ++ drop l.sample-index l.initial.samples;
  voices : l.now ≡ accumulators_after_many l.settings.registers true l.initial.now l.sample-index;
}
