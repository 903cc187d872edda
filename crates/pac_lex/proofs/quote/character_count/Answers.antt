use Rattle.std.proofs.Common.{◌∙◌, ap, length, arith}
use Rattle.pac_lex.proofs.TextLaws.{counts-on, ends-counted, characters-again}
use Rattle.pac_lex.proofs.quote.character_count.Goals as goal

pub loop-rest-preserved : goal.loop-rest-preserved
loop-rest-preserved c = record {
  within = omega (arith, c.after_character-rest.ensures.shorter, c.in-len1-up.len_at_least);
  counted =
      rw c.after_character-rest.ensures.same
      (counts-on c.loop-rest.count _ c.loop-rest.rest.now c.in-len1-up.len_at_least c.loop-rest.invariant.counted);
}

pub returns-clause-exact : goal.returns-clause-exact
returns-clause-exact c = ends-counted c.loop-rest.count _ c.loop-rest.rest.now c.in_default.len_below c.loop-rest.invariant.counted

pub returns-clause-each : goal.returns-clause-each
returns-clause-each c = λ characters e.
    ends-counted c.loop-rest.count _ c.loop-rest.rest.now c.in_default.len_below c.loop-rest.invariant.counted
    ∙ ap length (characters-again c.args.text.now characters e)
