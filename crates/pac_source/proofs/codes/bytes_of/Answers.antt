-- The bytes of what is told, number by number.
use Rattle.pac_source.proofs.Common.{refl, told_bytes}

pub returns : Rattle.pac_source.proofs.codes.bytes_of.Goals.returns
unfolding told_bytes
returns c = rw (c.to_le_bytes.ensures, c.to_le_bytes-2.ensures, c.to_le_bytes-3.ensures, c.to_le_bytes-4.ensures) refl
