use Rattle.pac_inputs.proofs.Common.{at_drop_more, drop, get_or, sym, too-large, with_digits, ◌+◌, ◌∙◌}

pub returns-then-value-gt-FRAME_LIMIT : Rattle.pac_inputs.proofs.line.frame_count.Goals.returns-then-value-gt-FRAME_LIMIT
returns-then-value-gt-FRAME_LIMIT c =
    let digits = c.args.word.now in
    let at = c.loop-byte.byte-index in
    let digit = get_or digits at 0 in
    sym (sym c.loop-byte.invariant.rest ∙ at_drop_more (with_digits 36000 c.loop-byte.value) digits at 0 c.loop-byte-test.true
    ∙ too-large 36000 c.loop-byte.value digit (drop (at + 1) digits) (rw (← c.from.ensures) c.if-value-gt-FRAME_LIMIT.true))
