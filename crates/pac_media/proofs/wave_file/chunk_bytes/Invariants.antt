use Rattle.pac_media.proofs.Common.{[], get_or, length, pos, sample_text, ℕ, ◌<◌, ◌≡◌}

abbrev pub invariant-loop-k : Rattle.pac_media.proofs.wave_file.chunk_bytes.Given.invariant-loop-k
invariant-loop-k l = record {
  long : length l.bytes ≡ 16;
  done : (j : ℕ) → j < l.k → get_or l.bytes j [] ≡ sample_text (get_or l.samples j (pos 0));
}
