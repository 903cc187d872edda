use Rattle.pac_lex.proofs.Common.{IfOk-weaker, ap, unquoted_characters, ◌∙◌, ◌≡◌}
use Rattle.pac_lex.proofs.TextLaws.{characters-again}

pub returns-clause-each : Rattle.pac_lex.proofs.quote.characters.Goals.returns-clause-each
returns-clause-each g c = λ characters e.
    IfOk-weaker c.unquoted.result (λ v. v.items ≡ unquoted_characters c.inside.result.now) (λ v. v.items ≡ characters)
    (λ v h. h ∙ ap unquoted_characters c.inside.ensures ∙ characters-again c.args.text.now characters e) c.unquoted.ensures
