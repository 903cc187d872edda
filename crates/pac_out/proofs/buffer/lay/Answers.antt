-- What is after the place stays.
use Rattle.pac_out.proofs.Common.{overwrites, rules}

pub returns-clause-rest : Rattle.pac_out.proofs.buffer.lay.Goals.returns-clause-rest
returns-clause-rest c = search (rules, overwrites)
