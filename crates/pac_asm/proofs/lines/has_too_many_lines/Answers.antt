use Rattle.pac_asm.proofs.Common.{arith, length, lines, lt-ltb, rules, sym}
use Rattle.pac_asm.proofs.lines.has_too_many_lines.Goals as goal

pub returns-in-None : goal.returns-in-None
returns-in-None c = search rules

pub returns : goal.returns
returns c = sym (lt-ltb 65535 (length (lines c.args.source.now)) (omega (arith, c.loop.invariant, c.loop-test.false)))
