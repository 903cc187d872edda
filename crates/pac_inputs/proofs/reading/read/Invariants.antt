use Rattle.pac_inputs.proofs.Common.{length, lines, script_from_line, script_of, ◌+◌, ◌≡◌, ◌≤◌}
use Rattle.pac_inputs.proofs.reading.read.Given as goal

abbrev pub invariant-loop-line : goal.invariant-loop-line
invariant-loop-line l =
    record {
      numbered : l.number + length l.rest ≤ length l.text + 1;
      same : script_from_line l.number l.script (lines l.rest) ≡ script_of l.text;
    }

abbrev pub decreases-loop-line : goal.decreases-loop-line
decreases-loop-line l = length l.rest
