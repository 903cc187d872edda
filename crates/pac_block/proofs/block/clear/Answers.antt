-- All bytes are those that fill it.
use Rattle.pac_block.proofs.Common.{arith, file_size, length, ◌≡◌}

pub returns : Rattle.pac_block.proofs.block.clear.Goals.returns
returns c =
    let size : length c.args.block.now.bytes ≡ file_size = omega arith in
    rw size at c.fill.ensures.after (λ y same. same)
