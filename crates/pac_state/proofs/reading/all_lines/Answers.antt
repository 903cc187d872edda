use Rattle.pac_state.proofs.Common.{IsFirstChunk, arith, ◌∙◌}
use Rattle.std.proofs.Common.{take_all}

pub returns : Rattle.pac_state.proofs.reading.all_lines.Goals.returns
returns c =
    let first : IsFirstChunk c.args.lines.now c.unwrap.result.now 224 = rw c.unwrap.ensures at c.first_chunk.ensures.cases in
    first.same ∙ take_all 224 c.args.lines.now (omega (arith, c.requires))
