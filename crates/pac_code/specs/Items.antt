-- Believed: the items of a source: what stands at which address, and when it stands in a program ROM. An instruction's
-- bytes are its code (Zilog Z80 CPU User Manual UM0080, "Z80 Instruction Description").
use Rattle.std.specs.Prelude.{◌≡◌, ℕ, ◌+◌, ◌≤◌, ◌==◌, if◌then◌else◌, Option, None, Some, List, [], ◌∷◌, length, take, drop, All}
use Rattle.std.specs.Option.{option_or}
use Rattle.pac_table.specs.Instructions.{Instruction, IsInstruction, code}

-- what stands at an address: an instruction, or bytes that are none, which may be no bytes at all
pub data Content : Type 0 where
  Code : (instruction : Instruction) → Content
  Data : (bytes : List ℕ) → Content

-- an item: the address of its first byte, and what stands there
pub record Item : Type 0 where
  pub at : ℕ
  pub content : Content

abbrev pub bytes_in : Content → List ℕ
bytes_in (Code instruction) = code instruction
bytes_in (Data bytes) = bytes

-- the bytes of an item
abbrev pub bytes_of : Item → List ℕ
bytes_of item = bytes_in item.content

-- the instruction that an item is, if it is one
abbrev pub instruction_in : Content → Option Instruction
instruction_in (Code instruction) = Some instruction
instruction_in (Data bytes) = None

-- The instruction of the item that begins at a cell. An item that is no instruction is passed over, so that data
-- of no bytes hides no instruction at its address.
abbrev pub instruction_at : List Item → ℕ → Option Instruction
instruction_at [] cell = None
instruction_at (item ∷ items) cell =
    option_or (if item.at == cell then instruction_in item.content else None) (instruction_at items cell)

-- an instruction is one of the table; data may be any bytes
abbrev pub IsValid : Content → Type 0
IsValid (Code instruction) = IsInstruction instruction
IsValid (Data bytes) = Unit {0}

-- an item lies wholly in a program ROM, which has its bytes
pub record Lies (program : List ℕ) (item : Item) : Type 0 where
  pub valid : IsValid item.content
  pub inside : item.at + length (bytes_of item) ≤ length program
  pub bytes : take (length (bytes_of item)) (drop item.at program) ≡ bytes_of item

abbrev pub AllLie : List ℕ → List Item → Type 0
AllLie program items = All (Lies program) items
