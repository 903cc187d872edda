-- Each byte is written.
use Rattle.pac_live.proofs.Common.{arith, bytes_read_of, length, tabulate-is, ◌≡◌}

pub returns : Rattle.pac_live.proofs.live_look.put_peeked.Goals.returns
unfolding bytes_read_of
returns c =
    let all : c.loop-place.place ≡ length c.args.bytes.now = omega (arith, c.loop-place.invariant.long) in
    tabulate-is c.loop-place.bytes (length c.args.bytes.now) _ 0 c.loop-place.invariant.long (rw all at c.loop-place.invariant.read)
