use Rattle.pac_expr.proofs.Common.{BeginsWithTree, length, token_marks, ◌*◌, ◌+◌, ◌<◌}
use Rattle.pac_expr.proofs.reading.+reading.Given as goal

abbrev pub decreases-operand : goal.decreases-operand
decreases-operand g l = 2 * length l.tokens.now

abbrev pub decreases-part : goal.decreases-part
decreases-part g l = 2 * length l.tokens.now + 1

abbrev pub decreases-right_of : goal.decreases-right_of
decreases-right_of g l = 2 * length l.tokens.now + 2

abbrev pub invariant-part-loop-operator : goal.invariant-part-loop-operator
invariant-part-loop-operator g l = record {
  begins : BeginsWithTree (g.S.SymbolLookup.lookup l.symbols) l.here l.rank (token_marks l.tokens) l.left (token_marks l.rest);
  shorter : length l.rest < length l.tokens;
}

abbrev pub decreases-part-loop-operator : goal.decreases-part-loop-operator
decreases-part-loop-operator g l = length l.rest
