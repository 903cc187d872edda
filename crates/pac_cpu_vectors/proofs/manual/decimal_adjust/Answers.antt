use Rattle.pac_cpu_vectors.proofs.DaaByBits.{daa-by-bits}

pub returns-clause-bits : Rattle.pac_cpu_vectors.proofs.manual.decimal_adjust.Goals.returns-clause-bits
returns-clause-bits c = daa-by-bits
