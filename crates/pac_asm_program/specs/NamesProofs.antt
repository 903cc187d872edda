-- For proofs: what proofs say of the definitions of Names.antt.
use Rattle.std.specs.Prelude.{List, bytes_eq}
use Rattle.pac_asm_program.specs.Names.{Symbol}
use Rattle.std.specs.List.{IsDistinct}
use Rattle.std.specs.Map.{keys_of}

-- no name is defined twice
abbrev pub AreDistinct : List Symbol → Type 0
AreDistinct symbols = IsDistinct bytes_eq (keys_of symbols)
