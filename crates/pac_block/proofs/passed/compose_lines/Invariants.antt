use Rattle.pac_block.proofs.Common.{BoardState, IsState, block_text, state_with_lines, ◌≡◌}

abbrev pub invariant-loop-y : Rattle.pac_block.proofs.passed.compose_lines.Given.invariant-loop-y
invariant-loop-y l = record {
  done : (state : BoardState) → IsState state → l.initial.block.bytes ≡ block_text state
      → l.block.bytes ≡ block_text (state_with_lines l.graphics l.screen l.y state);
}
