use Rattle.pac_cpu_vectors.proofs.Blocks.{searches-blocks}

pub returns : Rattle.pac_cpu_vectors.proofs.manual.block_searches.Goals.returns
returns c = searches-blocks
