use Rattle.pac_run.proofs.Planned.{refused-set}
use Rattle.std.proofs.Common.{arith}
use Rattle.std.proofs.lemmas.Bool.Decides.{nat_tests}

pub returns-clause-exact : Rattle.pac_run.proofs.plan.put_set.Goals.returns-clause-exact
returns-clause-exact c = grind (arith, nat_tests, refused-set)
