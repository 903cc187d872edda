pub returns : Rattle.pac_run_command.proofs.outputs.write_all_out.Goals.returns
returns g c =
    let last = c.write_state_out.ensures in
    (_, _, c.write_out-ran.ensures, (_, _, c.write_out-ran-2.ensures, (_, _, c.write_out-ran-3.ensures, last)))
