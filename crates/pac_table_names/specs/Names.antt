-- Believed: how instructions are written: the names of the operations, of registers, pairs and conditions, and the operands of
-- a form (Zilog Z80 CPU User Manual UM0080, "Z80 Instruction Description"). The same lists serve to read a source and to print an
-- instruction. Names are read in either case and printed in capitals.
use Rattle.std.specs.Prelude.{ℕ, ◌==◌, Bool, false, ◌||◌, if◌then◌else◌, List, [], ◌∷◌, get_or, codes}
use Rattle.std.specs.Prelude.{Option, Some, None, is_some, position, find}
use Rattle.std.specs.List.{list_any}
use Rattle.std.specs.Map.{lookup}
use Rattle.std.specs.Option.{option_map_or}
use Rattle.std.specs.Str.{str_eq_ignore_ascii_case}
use denote.Enum.Bare.{sameb}
use Rattle.pac_table.specs.contracts.operands.Name.{the_type}
use Rattle.pac_table.specs.declared.operands.Mnemonic.{Mnemonic}
use Rattle.pac_table.specs.declared.operands.Mnemonic.TheVariants as mnemonic
use Rattle.pac_table.specs.declared.operands.Shape.{Shape}
use Rattle.pac_table.specs.declared.operands.Shape.TheVariants as shape
use Rattle.pac_table.specs.declared.operands.Operands.{Operands}
use Rattle.pac_table.specs.declared.operands.Name.{Name}
use Rattle.pac_table.specs.declared.operands.Name.TheVariants as name
use Rattle.pac_table.specs.declared.operands.NameList.{NameList}
use Rattle.pac_table.specs.declared.operands.NameList.TheVariants as list
use Rattle.pac_table.specs.Mnemonics.{names_of}
use Rattle.pac_table.specs.Table.{table}

-- whether a word is a name, in either case
abbrev pub is_written : List ℕ → List ℕ → Bool
is_written word text = str_eq_ignore_ascii_case word text

-- whether a word is the name that stands at a value
abbrev pub is_name_at : List ℕ → Option (List ℕ) → Bool
is_name_at word None = false
is_name_at word (Some text) = is_written word text

-- the value for which an operation has this word as its name, if it has: 0 where it is no family
abbrev pub value_named : Mnemonic → List ℕ → Option ℕ
value_named mnemonic word = position (is_name_at word) (names_of mnemonic)

-- whether a word is the name of an operation: of one in the table
unfoldable pub is_operation : List ℕ → Bool
is_operation word = list_any (λ row. is_some (value_named row.operands.mnemonic word)) table

-- how registers, pairs and conditions are written
abbrev pub name_texts : List (List ℕ × Name)
name_texts =
    (codes "A", name.A) ∷ (codes "B", name.B) ∷ (codes "C", name.C) ∷ (codes "D", name.D) ∷ (codes "E", name.E) ∷ (codes "H", name.H) ∷
    (codes "L", name.L) ∷ (codes "I", name.I) ∷ (codes "R", name.R) ∷
    (codes "AF", name.Af) ∷ (codes "BC", name.Bc) ∷ (codes "DE", name.De) ∷ (codes "HL", name.Hl) ∷ (codes "SP", name.Sp) ∷
    (codes "IX", name.Ix) ∷ (codes "IY", name.Iy) ∷
    (codes "NZ", name.Nz) ∷ (codes "Z", name.Z) ∷ (codes "NC", name.Nc) ∷ (codes "PO", name.Po) ∷ (codes "PE", name.Pe) ∷
    (codes "P", name.P) ∷ (codes "M", name.M) ∷ []

-- the register, pair or condition that a word names, if it names one; C is both a register and a condition
unfoldable pub name_of : List ℕ → Option Name
name_of word = lookup (is_written word) name_texts

-- two names are one, as Rust's `==` tells it
abbrev pub is_same_name : Name → Name → Bool
is_same_name one other = sameb the_type one other

-- how a name is written
abbrev pub text_of_name : Name → List ℕ
text_of_name some = option_map_or (λ entry. entry.0) (find (λ entry. is_same_name entry.1 some) name_texts) []

-- what the values of a field name; among the registers 6 is none
abbrev pub names_in : NameList → List (Option Name)
names_in list.Registers =
    Some name.B ∷ Some name.C ∷ Some name.D ∷ Some name.E ∷ Some name.H ∷ Some name.L ∷ None ∷ Some name.A ∷ []
names_in list.Pairs = Some name.Bc ∷ Some name.De ∷ Some name.Hl ∷ Some name.Sp ∷ []
names_in list.StackPairs = Some name.Bc ∷ Some name.De ∷ Some name.Hl ∷ Some name.Af ∷ []
names_in list.PairsWithIx = Some name.Bc ∷ Some name.De ∷ Some name.Ix ∷ Some name.Sp ∷ []
names_in list.PairsWithIy = Some name.Bc ∷ Some name.De ∷ Some name.Iy ∷ Some name.Sp ∷ []
names_in list.Conditions =
    Some name.Nz ∷ Some name.Z ∷ Some name.Nc ∷ Some name.C ∷ Some name.Po ∷ Some name.Pe ∷ Some name.P ∷ Some name.M ∷ []
names_in list.RelativeConditions = Some name.Nz ∷ Some name.Z ∷ Some name.Nc ∷ Some name.C ∷ []

-- the name of a field's value
abbrev pub name_at : NameList → ℕ → Option Name
name_at names value = get_or (names_in names) value None

abbrev pub is_entry_name : Name → Option Name → Bool
is_entry_name one None = false
is_entry_name one (Some other) = is_same_name one other

-- the value of a field that has this name, if one has
abbrev pub value_of_name : NameList → Name → Option ℕ
value_of_name names one = position (is_entry_name one) (names_in names)

-- whether an operation is written with A before its operand: ADD, ADC and SBC of the eight
abbrev pub has_accumulator : Mnemonic → ℕ → Bool
has_accumulator mnemonic.Alu value = value == 0 || value == 1 || value == 3
has_accumulator _ value = false

abbrev pub present_shape : Shape → List Shape
present_shape shape.Absent = []
present_shape some = some ∷ []

-- one operand after another; after one that isn't there there is none
abbrev pub listed_shapes : Shape → Shape → List Shape
listed_shapes shape.Absent second = []
listed_shapes first second = first ∷ present_shape second

-- the operands of a form as they are written
abbrev pub written_operands : Operands → ℕ → List Shape
written_operands form value =
    if has_accumulator form.mnemonic value then listed_shapes (shape.Named name.A) form.first else listed_shapes form.first form.second
