use Rattle.std.proofs.Common.{◌∙◌, sym, arith}
use Rattle.pac_asm_operation.proofs.FirstLetter.{no-letter, with-letter, no-directive}
use Rattle.pac_asm_operation.proofs.directive.directive_of.Goals as goal

pub returns-in_err-first : goal.returns-in_err-first
returns-in_err-first c = c.from_residual.ensures ∙ no-letter c.args.word.now c.in_err-first.ensures.value

pub returns : goal.returns
returns c = grind (arith, with-letter)

pub returns-then-word-gt-LONGEST : goal.returns-then-word-gt-LONGEST
returns-then-word-gt-LONGEST c = sym (no-directive c.args.word.now c.if-word-gt-LONGEST.true)
