-- Law: the names of operations: which they are, and that no two of them are one.
use Rattle.std.specs.Prelude.{◌≡◌, ℕ, List}
use Rattle.std.specs.List.{list_any, IsDistinct}
use Rattle.pac_table_names.specs.Names.{is_written, is_operation}
use Rattle.pac_table_names.specs.Words.{operation_names}

-- The law. No two names of operations are written alike, small and capital letters counting as one, and a word is the name
-- of an operation exactly where it is one of these.
pub record OperationNamesAreDistinct : Type 0 where
  pub distinct : IsDistinct is_written operation_names
  pub all : (word : List ℕ) → is_operation word ≡ list_any (is_written word) operation_names
