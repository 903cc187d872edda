use Rattle.std.proofs.Common.{arith}
use Rattle.pac_dis.proofs.Writings.{shows-instruction, shown-within, shows-byte}
use Rattle.pac_dis.proofs.disassembly.disassemble.Goals as goal

pub returns-in-Some-clause-meaning : goal.returns-in-Some-clause-meaning
returns-in-Some-clause-meaning c = grind (arith, shows-instruction)

pub returns-in-Some-clause-within : goal.returns-in-Some-clause-within
returns-in-Some-clause-within c =
    shown-within c.args.bytes.now _ _ c.in-Some.ensures.prefix c.in-Some.ensures.size

pub returns-in-None-clause-meaning : goal.returns-in-None-clause-meaning
returns-in-None-clause-meaning c = grind (arith, shows-byte)
