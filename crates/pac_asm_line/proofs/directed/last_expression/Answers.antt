use Rattle.pac_asm_line.proofs.Common.{IfSome, Lexeme, List, ap, each_or_none, expression_in, is_comma, length, parts_after, slice_split}
use Rattle.pac_asm_line.proofs.Common.{subst, sym, views, ◌<◌, ◌∙◌, ◌∷◌, ◌≡◌}
use Rattle.pac_asm_line.proofs.Parts.{split-some, too-many}

pub returns-in-Some : Rattle.pac_asm_line.proofs.directed.last_expression.Goals.returns-in-Some
returns-in-Some c =
    let first = views c.next_part.result.0.now in
    let last = views c.in-Some.field-0.now in
    let parts : slice_split is_comma (views c.args.tokens.now) ≡ first ∷ slice_split is_comma last =
    c.next_part.ensures.parts ∙ ap (λ rest. first ∷ parts_after rest) c.in-Some.is in
    subst (λ (parts : List (List Lexeme)). IfSome (each_or_none expression_in parts) (λ all. 1 < length all)) (sym parts)
    (too-many expression_in first (slice_split is_comma last) (split-some is_comma last))
