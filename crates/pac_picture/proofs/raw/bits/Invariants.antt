use Rattle.std.proofs.Common.{◌↔◌, ℕ, ◌<◌, get_or}

abbrev pub invariant-loop-number : Rattle.pac_picture.proofs.raw.bits.Given.invariant-loop-number
invariant-loop-number l = (l.bits < 16) ↔ ((i : ℕ) → i < l.number-index → get_or l.numbers i 0 < 16)
