use Rattle.pac_live.proofs.Common.{flat_map, length, take, ◌*◌, ◌<◌, ◌≡◌}

abbrev pub invariant-loop-y : Rattle.pac_live.proofs.live_lines.put_numbers.Given.invariant-loop-y
invariant-loop-y l = record {
  size : length l.numbers ≡ length l.initial.numbers;
  text : take (288 * l.y) l.numbers ≡ flat_map (λ line. line) (take l.y l.lines);
  high : 0 < l.y → length l.lines ≡ 224;
}
