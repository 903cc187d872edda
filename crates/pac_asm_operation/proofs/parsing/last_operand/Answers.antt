use Rattle.pac_asm_operation.proofs.Common.{Lexeme, List, Option, Token, ap, operand_of, operands_of_parts, parts_after, subst, sym, views}
use Rattle.pac_asm_operation.proofs.Common.{◌∙◌, ◌∷◌}
use denote.Ref.{Bor}
use Rattle.pac_asm_operation.proofs.Commas.{AreMore, more-before, split-has-part}

pub returns-in-Some : Rattle.pac_asm_operation.proofs.parsing.last_operand.Goals.returns-in-Some
returns-in-Some c =
    let first = views c.next_part.result.0.now in
    let are =
    c.next_part.ensures.parts ∙ ap (λ (rest : Option (Bor (List Token))). first ∷ parts_after rest) c.in-Some.is in
    subst (λ (parts : List (List Lexeme)). AreMore 1 (operands_of_parts parts)) (sym are)
    (more-before 0 (operand_of first) _ (split-has-part (views c.in-Some.field-0.now)))
