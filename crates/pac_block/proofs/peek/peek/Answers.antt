-- The memory is that of the board that these ROMs and the block make.
use Rattle.pac_block.proofs.Common.{BoardState, ap, arith, bytes_read, ◌∙◌}
use Rattle.pac_block.proofs.peek.peek.Goals as goal

pub of-requires : goal.of-requires
of-requires c =
    let range = c.in_ok-fields.ensures.in_range in
    let below = range.count in
    record { registers = range.registers; count = omega (arith, below) }

pub returns : goal.returns
unfolding bytes_read
returns c =
    let opened = c.in_ok-fields.ensures in
    let memory = c.of.ensures ∙ ap (λ (state : BoardState). state.now.board.memory) opened.state in
    record {
      roms_are = c.in_ok-check_roms.ensures;
      block_is = opened.holds;
      read = c.put_read.ensures ∙ rw (c.program_of.ensures, memory);
    }
