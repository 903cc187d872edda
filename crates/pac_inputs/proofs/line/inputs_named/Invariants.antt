use Rattle.pac_inputs.proofs.Common.{inputs_named, mask, ◌≡◌}
use Rattle.pac_inputs.proofs.NameLemmas.{with_rest, texts, left}
use Rattle.pac_inputs.proofs.line.inputs_named.Given as goal

abbrev pub invariant-loop-rest : goal.invariant-loop-rest
invariant-loop-rest l = with_rest (mask l.held) (texts l.rest) ≡ inputs_named l.word

abbrev pub decreases-loop-rest : goal.decreases-loop-rest
decreases-loop-rest l = left (texts l.rest)
