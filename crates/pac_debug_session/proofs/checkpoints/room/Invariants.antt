-- So many were made.
use Rattle.pac_debug_session.proofs.Common.{checkpoint_count, length, ◌≡◌}

abbrev pub invariant-making : Rattle.pac_debug_session.proofs.checkpoints.room.Given.invariant-making
invariant-making l = record {
  count : length l.ring.items ≡ l.counter;
  capacity : l.ring.capacity ≡ checkpoint_count;
}
