use Rattle.pac_cpu_vectors.proofs.Blocks.{copies-blocks}

pub returns : Rattle.pac_cpu_vectors.proofs.manual.block_copies.Goals.returns
returns c = copies-blocks
