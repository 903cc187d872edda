use Rattle.pac_block.proofs.Common.{flat_map, length, opaque_pixel, take, ◌*◌, ◌++◌, ◌+◌, ◌≡◌}

abbrev pub invariant-loop-part : Rattle.pac_block.proofs.draw.put_line.Given.invariant-loop-part
invariant-loop-part l = record {
  size : length l.rgba ≡ length l.initial.rgba;
  text : take (l.at + 64 * l.part) l.rgba ≡ take l.at l.initial.rgba ++ flat_map (opaque_pixel l.palette) (take (16 * l.part) l.line);
}
