use Rattle.std.proofs.Common.{◌≡◌, true, set, ap, ◌∙◌, arith, rules}
use Rattle.std.proofs.lemmas.Int.{to_z-of_z}
use mir.Syntax.{w16}
use mir.Val.{to_z, of_z}
use Rattle.pac_wave.specs.Wave.{Accumulators, accumulator, accumulators_after, sound_sample}
use Rattle.pac_wave.proofs.Batch.{more-samples, more-voices}

pub loop-sample-preserved : Rattle.pac_wave.proofs.positions.Positions.fill.Goals.loop-sample-preserved
loop-sample-preserved c =
    let prom = c.args.settings.now.prom in
    let registers = c.args.settings.now.registers in
    let start = c.copied-now.result in
    let i = c.loop-sample.sample-index in
    let so_far = c.loop-sample.invariant in
    let read : to_z w16 (of_z w16 c.next.result) ≡ c.next.result = to_z-of_z w16 c.next.result (search rules) in
    let sample = read ∙ c.next.ensures.sample
    ∙ ap (λ (all : Accumulators). sound_sample prom registers (accumulator all) true) so_far.voices in
    record {
      samples =
          (λ k. set (so_far.samples k) i (sample k))
          ∙ more-samples prom registers true start c.args.samples.now i (omega arith);
      voices = c.next.ensures.accumulators ∙ ap (accumulators_after registers true) so_far.voices
          ∙ more-voices registers true start i;
    }
