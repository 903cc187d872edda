-- So many were made, all empty.
use Rattle.pac_debug_session.proofs.Common.{AreEmpty, length, ◌≡◌}

abbrev pub invariant-making : Rattle.pac_debug_session.proofs.session.empty_slots.Given.invariant-making
invariant-making l = record {
  count : length l.slots.items ≡ l.counter;
  empty : AreEmpty l.slots.items;
}
