-- Line after line is put into the block.
use Rattle.pac_block.proofs.Common.{ap, arith, block_text, sym, ◌∙◌}
use Rattle.pac_block.proofs.Recomposing.{line-put, none-yet}
use Rattle.pac_block.proofs.passed.compose_lines.Goals as goal

pub loop-y-init : goal.loop-y-init
loop-y-init c = record {
  done = λ state is same. same ∙ ap block_text (sym (none-yet c.args.graphics.now c.args.screen.now state));
}

pub loop-y-preserved : goal.loop-y-preserved
loop-y-preserved c = record {
  done = λ state is same.
      line-put c.args.graphics.now c.args.screen.now state c.loop-y.y c.compose_alone.new.out c.loop-y.block.bytes _ is
      (omega (arith, c.requires, c.loop-y-test.true)) c.compose_alone.ensures (c.loop-y.invariant.done state is same) c.put_line.ensures;
}
