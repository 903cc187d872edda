use Rattle.pac_block.proofs.Common.{flat_map, length, opaque_pixel, take, ◌*◌, ◌<◌, ◌≡◌}

abbrev pub invariant-loop-y : Rattle.pac_block.proofs.draw.put_lines.Given.invariant-loop-y
invariant-loop-y l = record {
  size : length l.rgba ≡ length l.initial.rgba;
  text : take (1152 * l.y) l.rgba ≡ flat_map (flat_map (opaque_pixel l.palette)) (take l.y l.lines);
  high : 0 < l.y → length l.lines ≡ 224;
}
