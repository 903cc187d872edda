use Rattle.std.proofs.Common.{length, ◌≡◌}
use Rattle.pac_picture.proofs.Unpacked.{ArePacked}

abbrev pub invariant-loop-y : Rattle.pac_picture.proofs.packed.PackedLines.pack.Given.invariant-loop-y
invariant-loop-y l = record {
  high : length l.self-inside.pairs ≡ 112;
  packed : ArePacked l.y l.lines l.self-inside.pairs;
}
