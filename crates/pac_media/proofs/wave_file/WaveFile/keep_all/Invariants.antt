use Rattle.pac_media.proofs.Common.{length, samples_text, ◌++◌, ◌+◌, ◌*◌, ◌<◌, ◌≡◌, ◌≤◌}
use Rattle.pac_media.proofs.wave_file.WaveFile.keep_all.Given as given

abbrev pub invariant-chunks : given.invariant-chunks
invariant-chunks g l = record {
  text : l.self-inside.waiting.items ++ samples_text l.left ≡ l.fn.self.waiting ++ samples_text l.fn.samples;
  room : 0 < length l.left → length l.self-inside.waiting.items + 2 * length l.left ≤ 8192;
  others : (l.self-inside.file ≡ l.fn.self.file) × (l.self-inside.owed ≡ l.fn.self.owed);
}

abbrev pub invariant-rest : given.invariant-rest
invariant-rest g l = record {
  text : l.self-inside.waiting.items ++ samples_text l.left ≡ l.fn.self.waiting ++ samples_text l.fn.samples;
  room : 0 < length l.left → length l.self-inside.waiting.items + 2 * length l.left ≤ 8192;
  others : (l.self-inside.file ≡ l.fn.self.file) × (l.self-inside.owed ≡ l.fn.self.owed);
}

abbrev pub decreases-chunks : given.decreases-chunks
decreases-chunks g l = length l.left

abbrev pub decreases-rest : given.decreases-rest
decreases-rest g l = length l.left
