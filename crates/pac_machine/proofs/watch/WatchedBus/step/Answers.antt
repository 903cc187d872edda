-- The processor's step over the bus that looks at each write.
use Rattle.pac_machine.proofs.Common.{rules}
use Rattle.pac_machine.proofs.Watched.{watched-did, written-met, watched-name}
use Rattle.pac_machine.proofs.watch.WatchedBus.step.Goals as goal

pub returns-clause-same : goal.returns-clause-same
returns-clause-same c = search (rules, watched-name)

pub returns-clause-did : goal.returns-clause-did
returns-clause-did c = search (rules, watched-did)

pub returns-clause-met : goal.returns-clause-met
returns-clause-met c = search (rules, written-met)
