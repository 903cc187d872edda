use Rattle.pac_lex.proofs.Common.{arith, eqb-false, length, sym, ◌∙◌}
use Rattle.pac_lex.proofs.WordLemmas.{next-word-is, shorter-after}
use Rattle.pac_lex.proofs.words.next_word.Goals as goal

pub returns-clause-some : goal.returns-clause-some
returns-clause-some c =
    let rest = c.after_gap-rest.result.now in
    let some = eqb-false (length rest) 0 (sym c.is_empty.ensures ∙ c.if-is_empty.false) in
    rw (c.split_at.ensures.front, c.split_at.ensures.back, c.word_len.ensures.value)
    (next-word-is c.args.line.now rest c.after_gap-rest.ensures.rest (omega (arith, some)))

pub returns-clause-shorter : goal.returns-clause-shorter
returns-clause-shorter c =
    let rest = c.after_gap-rest.result.now in
    let some = eqb-false (length rest) 0 (sym c.is_empty.ensures ∙ c.if-is_empty.false) in
    let word = shorter-after c.args.line.now rest c.after_gap-rest.ensures.rest (omega (arith, some)) in
    omega (arith, word, c.word_len.ensures.value, c.split_at.ensures.back_len, c.after_gap-rest.ensures.bound)
