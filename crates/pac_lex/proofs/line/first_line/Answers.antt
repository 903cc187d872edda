use Rattle.pac_lex.proofs.Common.{arith, eqb-false, sym, take_rest, ◌∙◌}
use Rattle.pac_lex.proofs.LineLemmas.{lines-first, lines-last}
use Rattle.pac_lex.proofs.line.first_line.Goals as goal

pub returns-in_default-clause-some : goal.returns-in_default-clause-some
returns-in_default-clause-some c = grind (arith, eqb-false, lines-last)

pub returns-clause-some : goal.returns-clause-some
returns-clause-some c =
    rw (take_rest c.split_at.result.1.now 1, c.split_at.ensures.back, c.without_return.ensures, c.split_at.ensures.front)
    (lines-first c.args.bytes.now c.in-Some.end (sym c.line_feed.ensures.place ∙ c.in-Some.is))
