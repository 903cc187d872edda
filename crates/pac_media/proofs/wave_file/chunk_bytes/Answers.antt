use Rattle.pac_media.proofs.Common.{arith, ◌≡◌}
use Rattle.pac_media.proofs.Gathered.{bytes-joined}
use Rattle.pac_media.proofs.wave_file.chunk_bytes.Goals as goal

pub returns-clause-text : goal.returns-clause-text
returns-clause-text c =
    let all : c.loop-k.k ≡ 16 = omega arith in
    bytes-joined c.args.samples.now c.loop-k.bytes c.told-samples c.loop-k.invariant.long (rw all at c.loop-k.invariant.done)
