use Rattle.pac_run_command.proofs.Common.{written}

pub returns : Rattle.pac_run_command.proofs.asm.put_rom.Goals.returns
returns g c =
    written g.R.Out.took g.R.Out.refused _ _ c.put-written.result c.args.program.now.rom c.new-file.result c.put-written.new.self
    c.new-file.ensures (rw c.rom.ensures.value at c.put-written.ensures.put) _ c.into_writer.ensures assumption
