use Rattle.pac_picture.proofs.Common.{get_or, length, pixel_byte_index, ℕ, ◌*◌, ◌+◌, ◌<◌, ◌≡◌}

abbrev pub invariant-loop-x : Rattle.pac_picture.proofs.graphics.sprite_bytes.Given.invariant-loop-x
invariant-loop-x l = record {
  long : length l.bytes ≡ 16;
  filled : (k : ℕ) → k < l.x → get_or l.bytes k 0 ≡ get_or l.rom (64 * l.code + pixel_byte_index k l.y) 0;
}
