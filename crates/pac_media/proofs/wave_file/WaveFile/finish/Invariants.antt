use Rattle.pac_media.proofs.Common.{Gains, pos, replicate, samples_text, true, ◌+◌, ◌≡◌}

abbrev pub invariant-loop : Rattle.pac_media.proofs.wave_file.WaveFile.finish.Given.invariant-loop
invariant-loop g l = record {
  given : Gains g.W.Out.took l.fn.self (samples_text (replicate l.counter (pos 0))) l.self;
  owed : l.self.owed + l.counter ≡ l.fn.self.owed;
  end_is : l.end ≡ l.fn.self.owed;
  shut : l.fn.self.file.failed ≡ true → l.self ≡ l.fn.self;
}
