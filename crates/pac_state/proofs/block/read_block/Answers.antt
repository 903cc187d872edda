use Rattle.pac_state.proofs.Common.{IsBlock, arith}
use Rattle.pac_state.proofs.Framing.{framed-of, reads-block}
use Rattle.pac_state.proofs.block.read_block.Goals as goal

pub returns-then-is_framed : goal.returns-then-is_framed
returns-then-is_framed c = grind (arith, reads-block)

pub returns-else-is_framed : goal.returns-else-is_framed
returns-else-is_framed c = λ (block : IsBlock c.args.block.now).
    absurd (cc (c.if-is_framed.false, c.is_framed.ensures.1 (framed-of c.args.block.now c.told-block block)))
