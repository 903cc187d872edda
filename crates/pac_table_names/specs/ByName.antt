-- For proofs: the rows of the table that have a name, by a search of all rows.
use Rattle.std.specs.Prelude.{◌≡◌, ℕ, ◌+◌, List, [], ◌∷◌, if◌then◌else◌, Some, is_some}
use Rattle.std.specs.List.{All}
use Rattle.std.specs.Option.{unwrap_or, option_or}
use Rattle.pac_table.specs.declared.operands.Mnemonic.{Mnemonic}
use Rattle.pac_table.specs.declared.operands.Mnemonic.TheVariants as mnemonic
use Rattle.pac_table.specs.declared.table.Row.{Row}
use Rattle.pac_table.specs.Table.{table}
use Rattle.pac_table.specs.Instructions.{row_at}
use Rattle.pac_table.specs.Mnemonics.{is_family}
use Rattle.pac_table_names.specs.Names.{value_named}

-- the numbers of the rows, counted from n, that have this name
abbrev pub rows_named_from : List ℕ → ℕ → List Row → List ℕ
rows_named_from word n [] = []
rows_named_from word n (row ∷ rows) =
    if is_some (value_named row.operands.mnemonic word) then n ∷ rows_named_from word (n + 1) rows else rows_named_from word (n + 1) rows

unfoldable pub rows_named : List ℕ → List ℕ
rows_named word = rows_named_from word 0 table

-- the value of the first field that a name tells, 0 where it is no family's
unfoldable pub family_value : List ℕ → ℕ
family_value word = unwrap_or (option_or (value_named mnemonic.Alu word) (value_named mnemonic.Shift word)) 0

-- the value of the first field of an operation with a name: what the name tells in a family, and else 0
abbrev pub family_in : Mnemonic → ℕ → ℕ
family_in mnemonic family = if is_family mnemonic then family else 0

-- each of these rows has the name, with the value that it tells
abbrev pub AreNamed : List ℕ → ℕ → List ℕ → Type 0
AreNamed word family rows =
    All (λ n. value_named (row_at n).operands.mnemonic word ≡ Some (family_in (row_at n).operands.mnemonic family)) rows
