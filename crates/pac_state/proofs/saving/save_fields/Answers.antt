use Rattle.pac_state.proofs.Common.{body, sealed_file, state_of, written_version}
use Rattle.pac_state.proofs.Sealing.{saves}

pub returns : Rattle.pac_state.proofs.saving.save_fields.Goals.returns
returns g c =
    saves g.W.Out.took g.W.Out.refused c.new-file.ensures
    (sealed_file (body written_version c.args.digest.now (state_of c.args.fields.now))) c.put_state-written.result
    c.put_state-written.new.file _ c.put_state-written.ensures _ c.into_writer.ensures assumption
