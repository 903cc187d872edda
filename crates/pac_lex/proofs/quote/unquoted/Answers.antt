use Rattle.pac_lex.proofs.TextLaws.{goes-on-unquoted, ends-unquoted}
use Rattle.pac_lex.proofs.quote.unquoted.Goals as goal

pub loop-rest-preserved : goal.loop-rest-preserved
loop-rest-preserved g c =
    rw (c.in_ok-push.ensures.items, c.after_character-rest.ensures.same)
    (goes-on-unquoted c.loop-rest.found.items c.loop-rest.rest.now _ c.in-len1-up.len_at_least c.loop-rest.invariant)

pub returns : goal.returns
returns g c = ends-unquoted c.loop-rest.found.items c.loop-rest.rest.now _ c.in_default.len_below c.loop-rest.invariant
