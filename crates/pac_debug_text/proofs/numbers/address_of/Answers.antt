use Rattle.std.proofs.Common.{ap, Some, ◌∙◌, arith, length, ◌≡◌}
use Rattle.pac_debug_text.proofs.NumberLemmas.{four-digits}

pub returns : Rattle.pac_debug_text.proofs.numbers.address_of.Goals.returns
returns c =
    let word = c.args.word.now in
    let four : length word ≡ 4 = omega (arith, c.in-len4.len_at_least, c.in-len4.len_below) in
    ap Some c.word.ensures
    ∙ four-digits word _ _ _ _ four c.in_ok-hex_digit.ensures.value c.in_ok-high.ensures.value c.in_ok-hex_digit-2.ensures.value
    c.in_ok-low.ensures.value
