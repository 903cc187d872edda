use Rattle.pac_debug_text.proofs.Common.{arith, at_drop_more, drop, get_or, sym, too-large, with_digits, ◌*◌, ◌+◌, ◌-◌, ◌<◌, ◌∙◌}

pub returns-then-value-from-clause-exact : Rattle.pac_debug_text.proofs.numbers.number_within.Goals.returns-then-value-from-clause-exact
returns-then-value-from-clause-exact c =
    let digits = c.args.word.now in
    let most = c.args.most in
    let value = c.loop-byte.value in
    let at = c.loop-byte.byte-index in
    let digit = get_or digits at 0 in
    let large : most < value * 10 + (digit - 48) =
    omega (arith, c.if-value-from.true, c.from.ensures, c.from-in-loop-byte.ensures) in
    sym (sym c.loop-byte.invariant.rest ∙ at_drop_more (with_digits most value) digits at 0 c.loop-byte-test.true
    ∙ too-large most value digit (drop (at + 1) digits) large)
