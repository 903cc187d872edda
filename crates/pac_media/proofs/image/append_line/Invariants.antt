use Rattle.pac_media.proofs.Common.{flat_map, length, palette_colour, take, vec_capacity, vec_len, ◌*◌, ◌++◌, ◌+◌, ◌≡◌, ◌≤◌}

abbrev pub invariant-loop-block : Rattle.pac_media.proofs.image.append_line.Given.invariant-loop-block
invariant-loop-block l = record {
  drawn : l.image.items ≡ l.initial.image.items ++ flat_map (palette_colour l.palette) (take (16 * l.block) l.numbers);
  long : vec_len l.image ≡ vec_len l.initial.image + 48 * l.block;
  room : vec_capacity l.initial.image ≤ vec_capacity l.image;
  size : length l.pixels ≡ 48;
}
