use Rattle.std.proofs.Common.{length, ◌-◌, ◌≤◌, take}
use Rattle.pac_out.proofs.Out.put_all.Given as goal

abbrev pub invariant-loop-count : goal.invariant-loop-count
invariant-loop-count g l = (l.count ≤ length l.bytes) × g.Self.Out.took l.initial.self (take l.count l.bytes) l.self

abbrev pub decreases-loop-count : goal.decreases-loop-count
decreases-loop-count g l = length l.bytes - l.count
