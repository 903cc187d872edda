use Rattle.std.proofs.Common.{rules}
use Rattle.std.proofs.lemmas.Bool.{and_parts}
use Rattle.pac_wave.proofs.Registers.{same-eights, eight-same}

pub returns : Rattle.pac_wave.proofs.settings.are_same.Goals.returns
returns c = λ same.
    let last = and_parts _ _ same in
    let third = and_parts _ _ last.0 in
    let first = and_parts _ _ third.0 in
    same-eights c.args.one.now c.args.other.now (search rules) (search rules)
    (eight-same c.word.result c.word-2.result _ _ c.word.ensures c.word-2.ensures first.0)
    (eight-same c.word-3.result c.word-4.result _ _ c.word-3.ensures c.word-4.ensures first.1)
    (eight-same c.word-5.result c.word-6.result _ _ c.word-5.ensures c.word-6.ensures third.1)
    (eight-same c.word-7.result c.word-8.result _ _ c.word-7.ensures c.word-8.ensures last.1)
