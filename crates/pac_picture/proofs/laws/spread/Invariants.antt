use Rattle.std.proofs.Common.{false, get_or, length, ℕ, ◌%◌, ◌+◌, ◌/◌, ◌<◌, ◌==◌, ◌^◌, ◌≡◌}

abbrev pub invariant-loop-k : Rattle.pac_picture.proofs.laws.spread.Given.invariant-loop-k
invariant-loop-k l = record {
  long : length l.mask ≡ length l.initial.mask;
  within : (n : ℕ) → n < l.k → get_or l.mask (l.start + n) false ≡ (l.bits / 2 ^ n % 2 == 1);
  before : (n : ℕ) → n < l.start → get_or l.mask n false ≡ get_or l.initial.mask n false;
}
