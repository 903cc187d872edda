use Rattle.std.proofs.Common.{arith}
use Rattle.pac_lex.proofs.ScanLemmas.{gap-skipped, next-none, next-fault, next-some}
use Rattle.pac_lex.proofs.reading.next_token.Goals as goal

pub returns-then-is_end-clause-next : goal.returns-then-is_end-clause-next
returns-then-is_end-clause-next c = grind (arith, gap-skipped, next-none)

pub returns-in-Err-clause-next : goal.returns-in-Err-clause-next
returns-in-Err-clause-next c = grind (arith, gap-skipped, next-fault)

pub returns-in-Ok-clause-next : goal.returns-in-Ok-clause-next
returns-in-Ok-clause-next c = grind (arith, gap-skipped, next-some)
