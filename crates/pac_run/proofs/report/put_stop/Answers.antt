pub returns-in-Vector : Rattle.pac_run.proofs.report.put_stop.Goals.returns-in-Vector
returns-in-Vector g c = rw c.in-Vector.is (c.put_vector_stop.ensures c.args.stop.bytes)
