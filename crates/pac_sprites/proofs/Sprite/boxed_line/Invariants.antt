use Rattle.pac_sprites.proofs.Common.{boxed_of, length, slice_index, ℕ, ◌<◌, ◌≡◌}

abbrev pub invariant-loop-across : Rattle.pac_sprites.proofs.Sprite.boxed_line.Given.invariant-loop-across
invariant-loop-across l = record {
  long : length l.values ≡ 16;
  filled : (k : ℕ) → k < l.across → slice_index l.values k ≡ boxed_of l.rom l.self k l.down;
}
