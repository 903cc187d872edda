use Rattle.pac_run_command.proofs.Common.{disassembly, written}

pub returns : Rattle.pac_run_command.proofs.dis.put_text.Goals.returns
returns g c =
    written g.W.Out.took g.W.Out.refused _ _ c.put_disassembly-written.result (disassembly c.args.bytes.now) c.new-file.result
    c.put_disassembly-written.new.file c.new-file.ensures c.put_disassembly-written.ensures _ c.into_writer.ensures assumption
