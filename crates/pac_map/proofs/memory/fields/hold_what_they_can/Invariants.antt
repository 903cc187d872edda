-- The registers seen so far hold what they can.
use Rattle.pac_map.proofs.Common.{kept_nibble, slice_index, ℕ, ◌<◌, ◌≡◌}

abbrev pub invariant-loop-register : Rattle.pac_map.proofs.memory.fields.hold_what_they_can.Given.invariant-loop-register
invariant-loop-register l =
    (other : ℕ) → other < l.register → kept_nibble other (slice_index l.registers other) ≡ slice_index l.registers other
