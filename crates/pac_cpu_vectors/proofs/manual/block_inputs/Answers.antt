use Rattle.pac_cpu_vectors.proofs.Blocks.{inputs-blocks}

pub returns : Rattle.pac_cpu_vectors.proofs.manual.block_inputs.Goals.returns
returns c = inputs-blocks
