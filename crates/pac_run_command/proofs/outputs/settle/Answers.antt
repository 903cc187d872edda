pub returns : Rattle.pac_run_command.proofs.outputs.settle.Goals.returns
returns g c = record {
  so_far = c.write_all_out-ran.result;
  written = c.write_all_out-ran.new.disk;
  all_written = c.write_all_out-ran.ensures;
  all_settled = c.settle_all.ensures;
}
