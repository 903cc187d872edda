use Rattle.pac_lex.proofs.Common.{at_drop_more, drop, get_or, sym, ◌+◌, ◌∙◌}
use Rattle.pac_lex.proofs.NumberLemmas.{with_digits, too-large}

pub returns-then-value-gt-GREATEST : Rattle.pac_lex.proofs.number.in_base.Goals.returns-then-value-gt-GREATEST
returns-then-value-gt-GREATEST c =
    let base = c.args.base in
    let value = c.loop-byte.value in
    let digits = c.args.digits.now in
    let at = c.loop-byte.byte-index in
    sym (sym c.loop-byte.invariant.rest ∙ at_drop_more (with_digits base value) digits at 0 c.loop-byte-test.true
    ∙ too-large base value (get_or digits at 0) (drop (at + 1) digits) c.requires.low
    (rw (← c.digit-digit.ensures, ← c.from-in-loop-byte.ensures, ← c.from.ensures) c.if-value-gt-GREATEST.true))
