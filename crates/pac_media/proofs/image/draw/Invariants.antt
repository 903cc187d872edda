use Rattle.pac_media.proofs.Common.{flat_map, header, image_size, palette_colour, take, vec_capacity, vec_len, ◌*◌, ◌++◌, ◌+◌, ◌≡◌, ◌≤◌}

abbrev pub invariant-loop-y : Rattle.pac_media.proofs.image.draw.Given.invariant-loop-y
invariant-loop-y l = record {
  drawn : l.image.items ≡ header ++ flat_map (flat_map (palette_colour l.palette)) (take l.y l.lines);
  long : vec_len l.image ≡ 15 + 864 * l.y;
  room : image_size ≤ vec_capacity l.image;
}
