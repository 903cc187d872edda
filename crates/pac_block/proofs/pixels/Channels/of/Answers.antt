use Rattle.pac_block.proofs.Common.{arith, coloured, palette_of, refl, tabulate-same, ◌<◌}

pub returns : Rattle.pac_block.proofs.pixels.Channels.of.Goals.returns
unfolding palette_of coloured
returns c =
    let kept = c.loop-number.invariant in
    tabulate-same 16 _ _ (λ number below.
    let done : number < c.loop-number.number = omega (arith, below, c.loop-number-test.false) in
    let red = kept.red number done in
    let green = kept.green number done in
    let blue = kept.blue number done in
    rw (red, green, blue) refl)
