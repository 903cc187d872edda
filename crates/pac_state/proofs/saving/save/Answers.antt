use Rattle.pac_state.proofs.Common.{arith, body, common_steps, save_text, sealed_file, state_of, written_version, ◌≡◌}

pub returns : Rattle.pac_state.proofs.saving.save.Goals.returns
returns g c =
    let text : sealed_file (body written_version c.digest.result (state_of c.fields.result))
    ≡ save_text written_version c.args.board.now.set c.args.board.now.state =
    cc (c.digest.ensures, c.set.ensures, c.fields.ensures.fields) in
    grind (arith, common_steps)
