-- Believed: what a run plays: the program of the source, the ROM set and the script; or the first of their faults.
use Rattle.std.specs.Prelude.{◌≡◌, ℕ, List, [], Option, None, Some, option_map, option_copied, Result, Ok}
use Rattle.std.specs.Option.{option_map_or}
use Rattle.std.specs.Result.{result_map_both}
use Rattle.pac_asm.specs.PlacedItems.{Item}
use Rattle.pac_asm.specs.Programs.{program_of}
use Rattle.pac_asm.specs.Results.{◌>>=◌}
use Rattle.pac_board_course.specs.Script.{script_of}
use Rattle.pac_board_course.specs.Stretch.{Stretch}
use Rattle.pac_listing.specs.Listing.{listing, symbol_rows}
use Rattle.pac_roms_manifest.specs.Manifests.{manifest_of}
use Rattle.pac_roms_manifest.specs.Sets.{set_of}
use Rattle.pac_roms_manifest.specs.declared.part.Part.{Part}
use Rattle.pac_asm.specs.Assembled.{Assembled, items_of}
use Rattle.pac_board_course.specs.RomParts.{Parts}
use Rattle.pac_run.specs.declared.inputs.RunInputs.{RunInputs}
use Rattle.pac_run.specs.declared.fault.RunFault.{RunFault}
use Rattle.pac_run.specs.declared.fault.RunFault.TheVariants as fault
use Rattle.pac_run.specs.declared.fault.StateFault.{StateFault}
use Rattle.pac_run.specs.Start.{RefusesState}

-- what is played on which set, by which script, and the listing
pub record Plan : Type 0 where
  pub items : List Item
  pub set : Parts
  pub script : List Stretch
  pub listing : List ℕ

-- the program of a source, where there is one
abbrev pub program_in : Option (List ℕ) → Result (Option Assembled) RunFault
program_in None = Ok None
program_in (Some source) = result_map_both Some fault.Source (program_of source)

-- the set of a manifest and its files, with the program's ROM where there is a program
abbrev pub set_in : List ℕ → List Part → Option Assembled → Result Parts RunFault
set_in manifest files program =
    result_map_both (λ set. set) fault.Set
    (manifest_of manifest >>= λ read. set_of read files (option_map (λ (it : Assembled). it.rom) program))

-- the listing of a program: without a source there are no symbols
abbrev pub listing_in : Option (List ℕ) → Option Assembled → List ℕ
listing_in (Some source) (Some program) = listing program source
listing_in source program = symbol_rows []

-- what is played of a program, a set and a script: without a source there are no items
abbrev pub plan_with : RunInputs → Option Assembled → Parts → List Stretch → Plan
plan_with inputs program set script = record {
  items = option_map_or items_of program [];
  set = set;
  script = script;
  listing = listing_in (option_copied inputs.source) program;
}

-- The plan: first the source is judged, then the set, then the script.
unfoldable pub plan_of : RunInputs → Result Plan RunFault
plan_of inputs = do
  program ← program_in (option_copied inputs.source)
  set ← set_in inputs.manifest.now inputs.parts.now program
  script ← result_map_both (λ script. script) fault.Script (script_of inputs.script.now)
  Ok (plan_with inputs program set script)

-- ---- what is made of them

-- a state file that is refused, after inputs without a fault
pub record IsStateRefused (inputs : RunInputs) (from : Option (List ℕ)) (refusal : StateFault) : Type 0 where
  pub plan : Plan
  pub plan_is : plan_of inputs ≡ Ok plan
  pub refuses : RefusesState plan.set plan.script from refusal
