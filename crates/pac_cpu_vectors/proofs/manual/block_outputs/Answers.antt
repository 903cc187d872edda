use Rattle.pac_cpu_vectors.proofs.Blocks.{outputs-blocks}

pub returns : Rattle.pac_cpu_vectors.proofs.manual.block_outputs.Goals.returns
returns c = outputs-blocks
