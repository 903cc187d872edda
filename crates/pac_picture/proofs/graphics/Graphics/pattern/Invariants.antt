use Rattle.pac_picture.proofs.Common.{[], get_or, length, tabulate, tile_number, ℕ, ◌%◌, ◌*◌, ◌+◌, ◌/◌, ◌<◌, ◌≡◌}

abbrev pub invariant-loop-pair : Rattle.pac_picture.proofs.graphics.Graphics.pattern.Given.invariant-loop-pair
invariant-loop-pair l = record {
  long : length l.lines ≡ 4;
  filled : (n : ℕ) → n < l.pair →
      get_or l.lines n [] ≡ tabulate 16 (λ k. tile_number l.fn.self l.colour l.code (k % 8) (2 * n + k / 8));
}
