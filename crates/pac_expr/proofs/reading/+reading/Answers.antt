use Rattle.pac_expr.proofs.Common.{Subtract, ap, arith, arithmetic, kind_mark, token_marks, ◌∙◌, ◌∷◌, ◌≡◌}
use Rattle.pac_expr.specs.declared.expr.Sign.TheVariants as signs
use Rattle.pac_expr.proofs.Complete.{plus-comes, single-begins, sign-begins, group-begins, joined-begins, atom-found}
use Rattle.pac_expr.proofs.reading.+reading.Goals as goal

pub operand-returns-in-Plus-clause-value : goal.operand-returns-in-Plus-clause-value
operand-returns-in-Plus-clause-value g t c =
    let first = c.in_ok-first.first.now in
    let after = token_marks c.in_ok-first.after.now in
    plus-comes _ _ _ after c.operand.result (λ r. r.0) (λ r. token_marks r.1.now)
    (ap token_marks c.in_ok-first.ensures.cases.0 ∙ ap (λ k. kind_mark k first.text.now ∷ after) c.in-Plus.is) c.operand.ensures.value

pub operand-returns-in_ok-value-in-Minus-clause-value : goal.operand-returns-in_ok-value-in-Minus-clause-value
operand-returns-in_ok-value-in-Minus-clause-value g t c =
    let first = c.in_ok-first.first.now in
    let after = token_marks c.in_ok-first.after.now in
    let is : token_marks c.args.tokens.now ≡ arithmetic Subtract ∷ after =
    ap token_marks c.in_ok-first.ensures.cases.0 ∙ ap (λ k. kind_mark k first.text.now ∷ after) c.in-Minus.is in
    rw (is, c.signed.ensures) (sign-begins _ _ signs.Minus after c.in_ok-value-in-Minus.value _ c.in_ok-value-in-Minus.ensures.value)

pub operand-returns-in_ok-after_closing-in-Open-clause-value : goal.operand-returns-in_ok-after_closing-in-Open-clause-value
operand-returns-in_ok-after_closing-in-Open-clause-value g t c = grind (arith, group-begins)

pub operand-returns-in_ok-single-in_default : goal.operand-returns-in_ok-single-in_default
operand-returns-in_ok-single-in_default g t c = grind (arith, atom-found, single-begins)

pub part-loop-operator-preserved : goal.part-loop-operator-preserved
part-loop-operator-preserved g t c = grind (arith, joined-begins)
