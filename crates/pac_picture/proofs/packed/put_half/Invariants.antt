use Rattle.std.proofs.Common.{length, get_or, ℕ, ◌<◌, ◌≡◌}
use Rattle.pac_picture.specs.Packed.{half_of}

abbrev pub invariant-loop-x : Rattle.pac_picture.proofs.packed.put_half.Given.invariant-loop-x
invariant-loop-x l = record {
  long : length l.out ≡ 288;
  done : (k : ℕ) → k < l.x → get_or l.out k 0 ≡ half_of l.low (get_or l.pair k 0);
}
