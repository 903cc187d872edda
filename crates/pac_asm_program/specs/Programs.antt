-- Believed: what a source becomes: what each of its lines puts into the program, the symbols, and the program ROM.
use Rattle.std.specs.Prelude.{ℕ, List, [], ◌∷◌, flat_map}
use Rattle.pac_code.specs.Items.{Item}
use Rattle.pac_asm_program.specs.declared.line.Line.{Line}
use Rattle.pac_asm_program.specs.declared.line.Line.TheVariants.{Placed}
use Rattle.pac_asm_program.specs.Names.{Symbol}

-- the bytes of the program ROM, from address 0
abbrev pub rom_size : ℕ
rom_size = 16384

-- one entry for each line of the source, the symbols in the order of definition, and the bytes of the ROM
pub record Assembled : Type 0 where
  pub lines : List Line
  pub symbols : List Symbol
  pub rom : List ℕ

-- the item that a line places, if it places one
abbrev pub items_in : Line → List Item
items_in (Placed item) = item ∷ []
items_in _ = []

-- the items of a program, in the order of their lines
abbrev pub items_of : Assembled → List Item
items_of program = flat_map items_in program.lines
