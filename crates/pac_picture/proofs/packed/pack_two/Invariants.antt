use Rattle.std.proofs.Common.{length, get_or, true, false, ℕ, ◌<◌, ◌≡◌}
use Rattle.pac_picture.specs.Packed.{half_of}

abbrev pub invariant-loop-x : Rattle.pac_picture.proofs.packed.pack_two.Given.invariant-loop-x
invariant-loop-x l = record {
  long : length l.pair ≡ 288;
  upper : (k : ℕ) → k < l.x → half_of true (get_or l.pair k 0) ≡ get_or l.upper k 0;
  lower : (k : ℕ) → k < l.x → half_of false (get_or l.pair k 0) ≡ get_or l.lower k 0;
}
