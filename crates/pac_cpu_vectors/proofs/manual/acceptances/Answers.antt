use Rattle.pac_cpu_vectors.proofs.Restarts.{only-restarts}

pub returns-clause-no_others : Rattle.pac_cpu_vectors.proofs.manual.acceptances.Goals.returns-clause-no_others
returns-clause-no_others c = only-restarts
