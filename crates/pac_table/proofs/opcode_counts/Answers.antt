use Rattle.pac_table.proofs.Common.{refl, table}

pub returns : Rattle.pac_table.proofs.opcode_counts.Goals.returns
unfolding table
returns c = record { plain = refl; cb = refl; ed = refl; dd = refl; fd = refl; dd_cb = refl; fd_cb = refl }
