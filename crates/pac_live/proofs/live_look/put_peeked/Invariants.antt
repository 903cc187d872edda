use Rattle.pac_live.proofs.Common.{get_or, length, read_of, wrapped_address, ℕ, ◌+◌, ◌<◌, ◌≡◌}

abbrev pub invariant-loop-place : Rattle.pac_live.proofs.live_look.put_peeked.Given.invariant-loop-place
invariant-loop-place l = record {
  at_is : l.at ≡ wrapped_address (l.address + l.place);
  long : length l.bytes ≡ length l.initial.bytes;
  read : (n : ℕ) → n < l.place
      → get_or l.bytes n 0 ≡ read_of l.board.set.program l.board.state.now.board.memory (wrapped_address (l.address + n));
}
