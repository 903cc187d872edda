-- Believed: the program ROM of items: a byte is that of the first item that covers its address, and 0 where none does.
use Rattle.std.specs.Prelude.{ℕ, ◌+◌, ◌-◌, ◌&&◌, Bool, nat_lt, nat_le, if◌then◌else◌}
use Rattle.std.specs.Prelude.{List, [], ◌∷◌, length, map, slice_index}
use Rattle.std.specs.List.{range_with_len}
use Rattle.pac_code.specs.Items.{Item, bytes_of}
use Rattle.pac_asm_program.specs.Programs.{rom_size}

-- whether an item covers an address
abbrev pub covers : Item → ℕ → Bool
covers item cell = nat_le item.at cell && nat_lt cell (item.at + length (bytes_of item))

-- the byte of an item at an address that it covers, and another where it doesn't
abbrev pub byte_over : Item → ℕ → ℕ → ℕ
byte_over item cell other = if covers item cell then slice_index (bytes_of item) (cell - item.at) else other

-- the byte at an address
abbrev pub rom_byte_at : List Item → ℕ → ℕ
rom_byte_at [] cell = 0
rom_byte_at (item ∷ more) cell = byte_over item cell (rom_byte_at more cell)

-- the ROM of items
unfoldable pub rom_of : List Item → List ℕ
rom_of items = map (rom_byte_at items) (range_with_len 0 rom_size)
