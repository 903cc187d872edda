use Rattle.std.proofs.Common.{arith, rules}
use Rattle.pac_media.proofs.Blocks.{part-more}
use Rattle.pac_media.proofs.Common.{common_steps}
use Rattle.pac_media.proofs.image.append_line.Goals as goal

pub loop-block-preserved : goal.loop-block-preserved
loop-block-preserved c = record {
  drawn = part-more _ _ _ _ _ _ c.loop-block.block _ (search rules) (omega arith) c.colour.ensures c.loop-block.invariant.drawn;
  long = search rules;
  room = search rules;
  size = search rules;
}

pub colour-requires-clause-below : goal.colour-requires-clause-below
colour-requires-clause-below c = grind (arith, common_steps)

pub returns-clause-items : goal.returns-clause-items
returns-clause-items c = grind (arith, common_steps)
