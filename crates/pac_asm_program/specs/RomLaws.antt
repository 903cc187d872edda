-- Law: what is proved of the definitions of Rom.antt.
use Rattle.pac_code.specs.Items.{Item, IsValid, bytes_of, AllLie}
use Rattle.std.specs.Prelude.{ℕ, IsTrue, IsFalse, List, [], All, ◌∷◌, length, ◌+◌, ◌≤◌}
use Rattle.pac_asm_program.specs.Rom.{covers, rom_of}
use Rattle.pac_asm_program.specs.Programs.{rom_size}

-- two items share no address, and of a list no two do
abbrev pub IsApartFrom : Item → Item → Type 0
IsApartFrom item other = (cell : ℕ) → IsTrue (covers item cell) → IsFalse (covers other cell)

abbrev pub AreApart : List Item → Type 0
AreApart [] = Unit {0}
AreApart (item ∷ more) = All (IsApartFrom item) more × AreApart more

-- an item can stand in the ROM: an instruction is one of the table, and all bytes are below 4000H
pub record IsFit (item : Item) : Type 0 where
  pub valid : IsValid item.content
  pub inside : item.at + length (bytes_of item) ≤ rom_size

-- the law: items that are apart lie in their ROM, each with its bytes
abbrev pub ApartItemsLie : Type 0
ApartItemsLie = (items : List Item) → AreApart items → All IsFit items → AllLie (rom_of items) items
