use Rattle.pac_debug.proofs.Common.{arith, byte_of-bits_of, rules}

pub returns : Rattle.pac_debug.proofs.seen.latches_of.Goals.returns
returns c = search (rules, arith, byte_of-bits_of)
