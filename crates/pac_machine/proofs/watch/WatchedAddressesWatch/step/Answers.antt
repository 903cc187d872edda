-- What was written, or else read.
use Rattle.pac_machine.proofs.Common.{rules}

pub returns-clause-met : Rattle.pac_machine.proofs.watch.WatchedAddressesWatch.step.Goals.returns-clause-met
returns-clause-met c = search rules
