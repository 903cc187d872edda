use Rattle.pac_dis.proofs.Common.{ap, arith, length, length-append}
use Rattle.pac_dis.proofs.Writings.{operation-named, operands-fit}
use Rattle.pac_dis.proofs.disassembly.instruction_text.Goals as goal

pub put_operands-requires-clause-room : goal.put_operands-requires-clause-room
put_operands-requires-clause-room c =
    operands-fit _ c.args.instr.now c.put_operation.new.text.bytes c.requires
    (omega (arith, simp length-append at (ap length c.put_operation.ensures), ap length c.new-text.ensures))

pub returns-clause-shown : goal.returns-clause-shown
returns-clause-shown c = grind (arith, length-append, operation-named)
