-- For proofs: what proofs say of the definitions of Entries.antt.
use Rattle.std.specs.Prelude.{Option, String, List, ℕ, option_map, string_bytes}
use Rattle.std.specs.declared.alloc.Global.{Global}

-- the bytes of a text, where there is one
abbrev pub bytes_of_text : Option (String Global) → Option (List ℕ)
bytes_of_text = option_map string_bytes
