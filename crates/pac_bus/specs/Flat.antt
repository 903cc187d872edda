-- For proofs: a bus of memory alone, for whoever takes the processor by itself: 65,536 bytes, each one writable, and 256
-- ports, each of which gives back what was last given to it.
use Rattle.std.specs.Prelude.{◌≡◌, ◌+◌, ◌++◌, ℕ, List, length, take, drop, slice_index, slice_set}
use Rattle.pac_bus.specs.Action.{Action, Write, Output}

pub record Cells : Type 0 where
  pub memory : List ℕ
  pub ports : List ℕ

abbrev pub byte_at : Cells → ℕ → ℕ
byte_at cells address = slice_index cells.memory address

abbrev pub input_at : Cells → ℕ → ℕ
input_at cells port = slice_index cells.ports port

abbrev pub cells_after_action : Cells → Action → Cells
cells_after_action cells (Write address byte) = record cells { memory = slice_set cells.memory address byte }
cells_after_action cells (Output port byte) = record cells { ports = slice_set cells.ports port byte }

-- every byte and every port is 0
abbrev pub IsBlank : Cells → Type 0
IsBlank cells =
    (length cells.memory ≡ 65536)
    × (length cells.ports ≡ 256)
    × ((address : ℕ) → byte_at cells address ≡ 0)
    × ((port : ℕ) → input_at cells port ≡ 0)

-- bytes put into memory from an address on
abbrev pub cells_with_bytes : Cells → ℕ → List ℕ → Cells
cells_with_bytes cells at bytes =
    record cells { memory = take at cells.memory ++ bytes ++ drop (at + length bytes) cells.memory }
