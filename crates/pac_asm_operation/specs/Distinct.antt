-- Law: the reserved words: which they are, and that no two of them are one (this profile's source language).
use Rattle.std.specs.Prelude.{◌≡◌, ℕ, List, ◌++◌}
use Rattle.std.specs.List.{list_any, IsDistinct}
use Rattle.std.specs.Map.{keys_of}
use Rattle.pac_table_names.specs.Names.{is_written, name_texts}
use Rattle.pac_table_names.specs.Words.{operation_names}
use Rattle.pac_asm_operation.specs.Directives.{directive_names}
use Rattle.pac_asm_operation.specs.Reserved.{is_reserved}

-- the names of operations, of registers, pairs and conditions, and of directives
abbrev pub reserved_words : List (List ℕ)
reserved_words = operation_names ++ keys_of name_texts ++ keys_of directive_names

-- The law. No two reserved words are written alike, small and capital letters counting as one, so that a word is an operation,
-- a register or a directive and no two of these; and a word is reserved exactly where it is one of them.
pub record ReservedWordsAreDistinct : Type 0 where
  pub distinct : IsDistinct is_written reserved_words
  pub all : (word : List ℕ) → is_reserved word ≡ list_any (is_written word) reserved_words
