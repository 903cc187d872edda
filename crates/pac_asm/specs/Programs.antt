-- Believed: the program of a source, or its fault (this profile). A7 comes before all other faults, and the second phase
-- begins where the first one has found none.
use Rattle.std.specs.Prelude.{ℕ, ◌+◌, List, [], length, nat_lt, Result, Ok, Err, flat_map, if◌then◌else◌}
use Rattle.std.specs.Str.Lines.{lines}
use Rattle.pac_asm_program.specs.Programs.{Assembled, items_in}
use Rattle.pac_asm_program.specs.Rom.{rom_of}
use Rattle.pac_asm.specs.Results.{◌>>=◌}
use Rattle.pac_asm.specs.Standings.{first_standing}
use Rattle.pac_asm.specs.Phase1.{phase1}
use Rattle.pac_asm.specs.Phase2.{phase2}
use Rattle.pac_asm.specs.declared.fault.AsmCode.TheVariants.{TooManyLines}
use Rattle.pac_asm.specs.declared.fault.AsmFault.{AsmFault}

-- the lines that a source may have
abbrev pub most_lines : ℕ
most_lines = 65535

unfoldable pub program_of : List ℕ → Result Assembled AsmFault
program_of source =
    if nat_lt most_lines (length (lines source)) then Err (record { code = TooManyLines; line = most_lines + 1 })
    else (do
      after ← phase1 1 first_standing (lines source)
      filled ← phase2 after.symbols 1 [] (lines source) after.places
      Ok (record { lines = filled; symbols = after.symbols; rom = rom_of (flat_map items_in filled) }))
