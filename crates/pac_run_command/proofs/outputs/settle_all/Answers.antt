pub returns : Rattle.pac_run_command.proofs.outputs.settle_all.Goals.returns
returns g c =
    let last = c.settle_state.ensures in
    (_, _, c.settle_output-ran.ensures, (_, _, c.settle_output-ran-2.ensures, (_, _, c.settle_output-ran-3.ensures, last)))
