-- The front of the board that is reset: its ROMs make no difference.
use Rattle.pac_block.proofs.Common.{HoldWhatTheyCan, View, ap, board_after_reset, refl, reset_regs, rules, subst, sym, ◌∙◌}
use Rattle.pac_block.proofs.Becoming.{front-of}
use Rattle.pac_block.proofs.fronts.reset_front.Goals as goal

pub reset_memory-memory-requires : goal.reset_memory-memory-requires
reset_memory-memory-requires c = c.in_ok-fields.ensures.in_range.count

pub block_front-requires : goal.block_front-requires
block_front-requires c =
    let range = c.in_ok-fields.ensures.in_range in
    let hold = range.registers in
    let kept = subst HoldWhatTheyCan (sym (ap (λ (view : View). view.registers) c.reset_memory-memory.ensures.view)) hold in
    let count = c.reset_memory-memory.ensures.count in
    search rules

pub returns : goal.returns
returns c =
    let opened = c.in_ok-fields.ensures in
    let regs = c.regs-regs.ensures ∙ c.reset.ensures ∙ ap reset_regs c.with_regs-cpu.ensures in
    record {
      is_block = opened.holds;
      front_is = λ roms.
          front-of board_after_reset roms c.args.block.now.bytes _ opened.state
          (rw (regs, c.reset_memory-memory.ensures.view) at c.block_front.ensures);
      lines = λ roms. refl;
    }
