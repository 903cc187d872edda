use Rattle.pac_state.proofs.Common.{arith, length, ◌/◌, ◌≡◌}
use Rattle.pac_state.proofs.Chunks.{chunks-are}
use Rattle.pac_state.proofs.reading.lines_of.Goals as goal

pub all_lines-requires : goal.all_lines-requires
all_lines-requires c = omega (arith, c.as_chunks.ensures.front_len, c.told-bytes)

pub returns : goal.returns
returns c =
    let count : length c.args.bytes.now / 288 ≡ 224 = omega (arith, c.told-bytes) in
    rw (c.all_lines.ensures, c.as_chunks.ensures.front, count, chunks-are)
