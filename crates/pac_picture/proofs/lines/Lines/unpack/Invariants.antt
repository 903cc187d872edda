use Rattle.std.proofs.Common.{[], length, get_or, ℕ, ◌<◌, ◌≡◌}
use Rattle.pac_picture.specs.State.{IsPicture}

abbrev pub invariant-loop-y : Rattle.pac_picture.proofs.lines.Lines.unpack.Given.invariant-loop-y
invariant-loop-y l = record {
  high : length l.self-inside.lines ≡ 224;
  done : (k : ℕ) → k < l.y → get_or l.self-inside.lines k [] ≡ get_or l.packed k [];
  picture : 0 < l.y → IsPicture l.packed;
}
